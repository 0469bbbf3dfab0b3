-- the compressed run
use Rattle.ta_compress.proofs.Common.{◌≡◌, inl, inr, ℕ, suc, ◌+◌, ◌<◌, ◌≤◌, ℤ, pos, negsuc, ◌≤ℤ◌, List, [], ◌∷◌, ◌++◌, length, map, take, arith, sym, ap, ◌∙◌}
use Rattle.ta_compress.proofs.Common.{refl, subst, slice_get, get_or, Some, None, Option, append_assoc, length-append, ints, length-map, same_Some}
use Rattle.ta_compress.proofs.Common.{AllByRecursion, each_append, each_back, each_front, each_take, InRange, Automaton, File, Pattern, Config, InScope, total}
use Rattle.ta_compress.proofs.Common.{times_in, pattern_within, naturals, Value, count_at, StepsWithin, Run, RunLine, Mark, Fits, LineFits, OncePerRule}
use Rattle.ta_compress.proofs.Common.{step_line, last_lines, piece_lines, pieces_lines, steps_count, IsFirstConfig, Shows, ShowsPattern, marks_count}
use Rattle.ta_compress.proofs.Common.{shown_first, IsSmallReplay, IsShortRun, unit, unfolded, value_after, CutPiece, CompressOf, AreCut, IsPiece, IsShortened}
use Rattle.ta_compress.proofs.Common.{counts_of, lines_in, units, SameTale, LinesTell, first_whole}
use Rattle.ta_base.proofs.Times.{times-most}
use Rattle.std.proofs.lemmas.Nat.{mul-le}
use Rattle.ta_scope.proofs.Arranging.{arranged_within}
use Rattle.ta_replay.specs.Pieces as pieces
use Rattle.ta_replay.proofs.Counting.{marks_are_events}
use Rattle.ta_replay.proofs.PieceLines.{are_short}
use Rattle.ta_compress.proofs.Cutting.{pieces_retell}
use Rattle.ta_compress.proofs.Few.{left_most, pieces_few}
use Rattle.ta_compress.proofs.Rearranging.{Stands, count_in, counts_natural}
use Rattle.ta_compress.proofs.Repeating.{whole_run}
use Rattle.ta_compress.proofs.Retelling.{shows_same}
use Rattle.ta_compress.proofs.Shortening.{fits_named}
use Rattle.ta_compress.proofs.Telling.{cut_off, tell_unfolded, told}
use Rattle.ta_compress.proofs.Unfolding.{unfold_fits, unfold-marks, front-marks, front-factors, unfold-length}

-- what a run that shows its pattern is to the pattern that it names
pub shown_named : (file : File) (run : Run) (fits : Fits file run) → IsSmallReplay file run → ShowsPattern file.automaton fits.pattern run
shown_named file run fits admitted =
    let shown = admitted.replayed.shows in
    let same : shown.pattern ≡ fits.pattern = same_Some shown.pattern fits.pattern (sym shown.named ∙ fits.named) in
    subst (λ (p : Pattern). ShowsPattern file.automaton p run) same shown.shows

-- two runs that tell the same
record Twice (file : File) (run short : Run) (p : Pattern) (s : ShowsPattern file.automaton p run) : Type 0 where
  tale : List (ℕ × Config)
  told : LinesTell file.automaton p s.first run.lines tale
  short_told : LinesTell file.automaton p s.first short.lines tale
  begins : IsFirstConfig file.automaton short s.first

twice : (file : File) (run short : Run) → InScope file.automaton → (fits : Fits file run) → (s : ShowsPattern file.automaton fits.pattern run)
    → CompressOf file run short → Twice file run short fits.pattern s
unfolding total
twice file run short scope fits s c =
    let a = file.automaton in
    let p = fits.pattern in
    let cut = c.lines in
    let all = whole_run a p run s in
    let t = told a p s.first run.lines all.0 all.1 in
    let front = tell_unfolded a p s.first (take cut.n run.lines) t.0 (cut_off a p s.first run.lines cut.n t.0 cut.last_mark t.1) in
    let stands : Stands a cut.first [] s.first = record {
      whole = first_whole a s.first s.follows.initial;
      same = λ i. omega
          (arith, ints, shown_first a p run (fits_named file run fits) s cut.first cut.starts i);
    } in
    record {
      tale = t.0;
      told = t.1;
      short_told = pieces_retell a p cut.first scope cut.pieces [] (unfolded (take cut.n run.lines)) short.lines s.first t.0 cut.cut stands
          (s.kept_empty 0 s.first refl) front;
      begins = record {
        parameters = s.begins.parameters ∙ ap naturals (sym c.parameters);
        counts = λ j l at. s.begins.counts j l at ∙ ap (λ (xs : List ℤ). get_or (naturals xs) j 0) (sym c.counts);
      };
    }

pub same_tale : (file : File) (run short : Run) → InScope file.automaton → Fits file run → IsSmallReplay file run → CompressOf file run short
    → SameTale file run short
same_tale file run short scope fits admitted c =
    let s = shown_named file run fits admitted in
    let t = twice file run short scope fits s c in
    record {
      pattern = fits.pattern;
      named = fits.named;
      same_pattern = c.pattern;
      first = s.first;
      initial = s.follows.initial;
      begins = s.begins;
      other_begins = t.begins;
      tale = t.tale;
      told = t.told;
      other_told = t.short_told;
    }

named_short : (file : File) (run short : Run) (fits : Fits file run) → CompressOf file run short → slice_get file.patterns short.pattern ≡ Some fits.pattern
named_short file run short fits c = ap (slice_get file.patterns) c.pattern ∙ fits.named

pub short_shows : (file : File) (run short : Run) → InScope file.automaton → Fits file run → IsSmallReplay file run → CompressOf file run short
    → Shows file short
short_shows file run short scope fits admitted c =
    let s = shown_named file run fits admitted in
    let t = twice file run short scope fits s c in
    record {
      pattern = fits.pattern;
      named = named_short file run short fits c;
      shows = shows_same file.automaton fits.pattern run short s (first_whole file.automaton s.first s.follows.initial) t.begins t.tale t.told t.short_told;
    }

within : (a : Automaton) → InScope a → (piece : CutPiece) (lines rest : List RunLine) → (sh : IsShortened a piece lines rest)
    → StepsWithin a (counts_of a piece.body) sh.steps
within a scope piece lines rest sh = arranged_within a scope (counts_of a piece.body) (counts_natural a piece.body) sh.steps sh.arranged

-- the shortened piece as a piece of the run
record Made (a : Automaton) (lines rest : List RunLine) : Type 0 where
  piece : pieces.Piece
  once : OncePerRule a piece
  is : lines ≡ piece_lines piece ++ rest

made : (a : Automaton) → InScope a → (first : List ℤ) (done : List RunLine) (piece : CutPiece) (lines rest : List RunLine) → IsPiece a first done piece
    → IsShortened a piece lines rest → Made a lines rest
made a scope first done piece lines rest is sh = by_end is where
  w : StepsWithin a (counts_of a piece.body) sh.steps
  w = within a scope piece lines rest sh

  of_kept : (last : Option ℕ) (marks : List ℕ) → piece.kept ≡ last_lines last ++ map Mark marks → Made a lines rest
  of_kept last marks e = record {
    piece = record { steps = sh.steps; last = last; marks = marks };
    once = record { exist = w.exist; once = w.once };
    is = sh.is ∙ sym (append_assoc (map step_line sh.steps) piece.kept rest) ∙ ap (λ (ls : List RunLine). (map step_line sh.steps ++ ls) ++ rest) e;
  }

  by_end : IsPiece a first done piece → Made a lines rest
  by_end (inl m) = of_kept None (m.event ∷ []) m.kept
  by_end (inr (inl f)) = of_kept (Some f.rule) [] f.kept
  by_end (inr (inr r)) = of_kept None [] r.kept

-- the compressed lines as pieces
record AsPieces (a : Automaton) (short : List RunLine) (count : ℕ) : Type 0 where
  parts : List pieces.Piece
  lines : short ≡ pieces_lines parts
  many : length parts ≡ count
  once : AllByRecursion (OncePerRule a) parts

as_pieces : (a : Automaton) → InScope a → (first : List ℤ) (cuts : List CutPiece) (done lines short : List RunLine) → AreCut a first done lines cuts short
    → AsPieces a short (length cuts)
as_pieces a scope first [] done lines short cut = record { parts = []; lines = cut.1; many = refl; once = tt }
as_pieces a scope first (piece ∷ cuts) done lines short cut =
    let m = made a scope first done piece short cut.3 cut.0 cut.4 in
    let more = as_pieces a scope first cuts (done ++ lines_in piece) cut.1 cut.3 cut.5 in
    record {
      parts = m.piece ∷ more.parts;
      lines = m.is ∙ ap (λ (ls : List RunLine). piece_lines m.piece ++ ls) more.lines;
      many = ap suc more.many;
      once = (m.once, more.once);
    }

events_of : (file : File) (run : Run) (fits : Fits file run) → IsSmallReplay file run → marks_count run.lines ≡ length fits.pattern.events
events_of file run fits admitted = marks_are_events file.automaton fits.pattern run fits.lines (shown_named file run fits admitted)

pub is_short : (file : File) (run short : Run) → InScope file.automaton → Fits file run → IsSmallReplay file run → CompressOf file run short
    → IsShortRun file short
is_short file run short scope fits admitted c p named =
    let a = file.automaton in
    let cut = c.lines in
    let front = unfolded (take cut.n run.lines) in
    let fits_front = unfold_fits a fits.pattern (take cut.n run.lines) (each_take (LineFits a fits.pattern) cut.n run.lines fits.lines) in
    let few = pieces_few a fits.pattern cut.first cut.pieces [] front short.lines fits_front cut.cut in
    let parts = as_pieces a scope cut.first cut.pieces [] front short.lines cut.cut in
    let most = ap steps_count parts.lines in
    let short_ones = are_short a parts.parts parts.once in
    let same : fits.pattern ≡ p = same_Some fits.pattern p (sym (named_short file run short fits c) ∙ named) in
    let events = events_of file run fits admitted ∙ ap (λ (q : Pattern). length q.events) same in
    let marks = unfold-marks (take cut.n run.lines) in
    let fewer = front-marks run.lines cut.n in
    let guards = left_most a (value_after a cut.first []) in
    let count : length parts.parts ≤ length a.rise + length a.fall + length p.events = omega (arith, few, marks, fewer, guards, events, parts.many) in
    let product = mul-le (length parts.parts) (length a.rules + 1) (length a.rise + length a.fall + length p.events) (length a.rules + 1) count (omega arith) in
    omega (arith, most, short_ones, product)

small_fits : (z : ℤ) (n : ℕ) → pos 1 ≤ℤ z → z ≤ℤ pos n → n ≤ 2000000 → InRange z
small_fits (pos m) n low high small = omega (arith, ints)
small_fits (negsuc m) n low high small = absurd (omega (arith, ints))

-- each arranged step fits
steps_fit : (a : Automaton) (p : Pattern) (body : List ℕ) (steps : List (ℕ × ℤ)) → length body ≤ 2000000
    → AllByRecursion (λ (step : ℕ × ℤ). step.0 < length a.rules) steps
    → AllByRecursion (λ (step : ℕ × ℤ). (pos 1 ≤ℤ step.1) × (step.1 ≤ℤ count_at (counts_of a body) step.0)) steps
    → AllByRecursion (LineFits a p) (map step_line steps)
steps_fit a p body [] small exist factors = tt
steps_fit a p body (step ∷ steps) small exist factors =
    let count = count_in a body step.0 exist.0 in
    let most = times-most step.0 body in
    let low = factors.0.0 in
    let high = factors.0.1 in (
      (exist.0, low, small_fits step.1 (times_in step.0 body) low (omega (arith, ints)) (omega arith)),
      steps_fit a p body steps small exist.1 factors.1,
    )

pieces_fit : (a : Automaton) (p : Pattern) → InScope a → (first : List ℤ) (cuts : List CutPiece) (done lines short : List RunLine) → length lines ≤ 2000000
    → AllByRecursion (LineFits a p) lines → AreCut a first done lines cuts short → AllByRecursion (LineFits a p) short
pieces_fit a p scope first [] done lines short small fits cut = subst (AllByRecursion (LineFits a p)) (sym cut.1) tt
pieces_fit a p scope first (piece ∷ cuts) done lines short small fits cut =
    let behind = cut.1 in
    let sh = cut.4 in
    let all = subst (AllByRecursion (LineFits a p)) cut.2 fits in
    let here = each_front (LineFits a p) (lines_in piece) behind all in
    let kept = each_back (LineFits a p) (units piece.body) piece.kept here in
    let long = ap (λ (ls : List RunLine). length ls) cut.2 in
    let one = length-append (lines_in piece) behind in
    let two = length-append (units piece.body) piece.kept in
    let three = length-map piece.body unit in
    let w = within a scope piece short cut.3 sh in
    let more = pieces_fit a p scope first cuts (done ++ lines_in piece) behind cut.3 (omega arith) (each_back (LineFits a p) (lines_in piece) behind all) cut.5
    in
    subst (AllByRecursion (LineFits a p)) (sym sh.is)
    (each_append (LineFits a p) (map step_line sh.steps) (piece.kept ++ cut.3) (steps_fit a p piece.body sh.steps (omega arith) w.exist w.factors)
    (each_append (LineFits a p) piece.kept cut.3 kept more))

pub short_fits : (file : File) (run short : Run) → InScope file.automaton → Fits file run → IsSmallReplay file run → CompressOf file run short → Fits file short
short_fits file run short scope fits admitted c =
    let a = file.automaton in
    let cut = c.lines in
    let front = take cut.n run.lines in
    let long = unfold-length front in
    let few = front-factors run.lines cut.n in
    let fewer = front-marks run.lines cut.n in
    let events = events_of file run fits admitted in
    let limit = (pattern_within file run.pattern fits.pattern fits.named).events_limit in
    let admitted_few = admitted.few in
    record {
      pattern = fits.pattern;
      named = named_short file run short fits c;
      parameters = ap (λ (xs : List ℤ). length xs) c.parameters ∙ fits.parameters;
      parameters_natural = subst (AllByRecursion Value) (sym c.parameters) fits.parameters_natural;
      counts = ap (λ (xs : List ℤ). length xs) c.counts ∙ fits.counts;
      counts_natural = subst (AllByRecursion Value) (sym c.counts) fits.counts_natural;
      lines = pieces_fit a fits.pattern scope cut.first cut.pieces [] (unfolded front) short.lines (omega arith)
          (unfold_fits a fits.pattern front (each_take (LineFits a fits.pattern) cut.n run.lines fits.lines)) cut.cut;
    }
