-- The lines of a run, stop by stop.
use Rattle.std.specs.Prelude.{ℕ, ℤ, pos, ◌-ℤ◌, ◌≡◌, ◌<◌, ◌≤ℤ◌, cond, int_lt, List, [], ◌∷◌, ◌++◌, length, map, Option, None, Some}
use Rattle.std.specs.List.{AllByRecursion, range_with_len}
use Rattle.ta_automaton.specs.declared.automaton.Automaton.{Automaton}
use Rattle.ta_automaton.specs.declared.pattern.Pattern.{Pattern}
use Rattle.ta_replay.specs.Fits.{LineFits}
use Rattle.ta_replay.specs.Pieces.{Piece, piece_lines}
use Rattle.ta_replay.specs.declared.run.RunLine.{RunLine}
use Rattle.ta_scope.specs.Arranged.{ArrangedOf, count_at}
use Rattle.ta_witness.specs.declared.stop.Stop.{Stop}

-- how many firings are missing
abbrev pub gap : ℤ → ℤ → ℤ
gap before after = cond (int_lt before after) (after -ℤ before) (pos 0)

-- for each rule
abbrev pub gaps : List ℤ → List ℤ → List ℤ
gaps before after = map (λ r. gap (count_at before r) (count_at after r)) (range_with_len 0 (length after))

-- the event that is marked
abbrev pub marked : Option ℕ → List ℕ
marked None = []
marked (Some e) = e ∷ []

-- the lines of the piece to a stop are added
pub record AddsStop (a : Automaton) (p : Pattern) (before after : List ℤ) (mark : Option ℕ) (old new : List RunLine) : Type 0 where
  pub piece : Piece
  pub steps : ArrangedOf a (gaps before after) piece.steps
  pub none_last : piece.last ≡ None
  pub marks : piece.marks ≡ marked mark
  pub added : new ≡ old ++ piece_lines piece
  pub fit : AllByRecursion (LineFits a p) (piece_lines piece)

-- a stop has a natural number for each rule, and marks an existing event
pub record StopFits (a : Automaton) (p : Pattern) (stop : Stop) : Type 0 where
  pub rules : length stop.counts.items ≡ length a.rules
  pub natural : AllByRecursion (λ z. pos 0 ≤ℤ z) stop.counts.items
  pub event : (e : ℕ) → stop.mark ≡ Some e → e < length p.events

-- the counts at the last of some stops
abbrev pub last_counts : List ℤ → List Stop → List ℤ
last_counts before [] = before
last_counts before (stop ∷ stops) = last_counts stop.counts.items stops

-- the lines of the pieces to stops are added, in order
abbrev pub AddsStops : Automaton → Pattern → List ℤ → List Stop → List RunLine → List RunLine → Type 0
AddsStops a p before [] old new = new ≡ old
AddsStops a p before (stop ∷ stops) old new =
    (middle : List RunLine) × AddsStop a p before stop.counts.items stop.mark old middle × AddsStops a p stop.counts.items stops middle new
