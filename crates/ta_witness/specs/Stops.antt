-- Where the run of a whole node stops: at the positions of its moments, ordered by the sums of their counts. At a whole node, counts with
-- the same sum are equal, so there is no step between two such stops.
use Rattle.std.specs.Prelude.{ℕ, ℤ, pos, ◌-◌, ◌≡◌, nat_lt, cond, List, [], ◌∷◌, ◌++◌, length, map, flat_map, drop, slice_get, None}
use Rattle.std.specs.List.{range_with_len}
use Rattle.ta_automaton.specs.declared.automaton.Automaton.{Automaton}
use Rattle.ta_automaton.specs.declared.pattern.Pattern.{Pattern}
use Rattle.ta_moments.specs.Facts.{is_moving}
use Rattle.ta_moments.specs.Moments.{Vector, Moment, Point, Pair, event_vector}
use Rattle.ta_moments.specs.Refutes.{Asking, Node, known_at}
use Rattle.ta_moments.specs.Chains.{Counts, firings_in}
use Rattle.ta_moments.specs.Nodes.{counts_of}
use Rattle.ta_replay.specs.Pieces.{Piece}
use Rattle.ta_scope.specs.Arranged.{ArrangedOf}

-- a position of a run: how often each rule fired before it, and the event that happens there, if it is the position of an event
pub record Stop : Type 0 where
  pub counts : Counts
  pub marks : List ℕ

-- an event's position, at natural values of the unknowns
abbrev pub event_stop : Automaton → Pattern → List ℕ → ℕ → Stop
event_stop a p values e = record { counts = counts_of values (event_vector a p e); marks = e ∷ [] }

-- the position of a vector
abbrev pub plain_stop : List ℕ → Vector → Stop
plain_stop values v = record { counts = counts_of values v; marks = [] }

-- the positions of a moment: both positions of a pair
abbrev pub moment_stops : List ℕ → Moment → List Stop
moment_stops values (Point v) = plain_stop values v ∷ []
moment_stops values (Pair v w) = plain_stop values v ∷ plain_stop values w ∷ []

-- the stops of the events, by number
abbrev pub event_stops : Automaton → Pattern → List ℕ → List Stop
event_stops a p values = map (event_stop a p values) (range_with_len 0 (length p.events))

-- the stops of moments, in order
abbrev pub stops_of : List ℕ → List Moment → List Stop
stops_of values ms = flat_map (moment_stops values) ms

-- the stops of a node: its first moments are the events
abbrev pub node_stops : Automaton → Pattern → Asking → Node → List ℕ → List Stop
node_stops a p asking node values = event_stops a p values ++ stops_of values (drop (length p.events) (known_at a p asking node).moments)

-- a stop inserted before those with no fewer firings
unfoldable pub with_stop : List ℕ → Stop → List Stop → List Stop
with_stop rules s [] = s ∷ []
with_stop rules s (t ∷ ts) = cond (nat_lt (firings_in rules t.counts) (firings_in rules s.counts)) (t ∷ with_stop rules s ts) (s ∷ t ∷ ts)

-- stops sorted by the sum of their counts; stops with the same sum stay in order
unfoldable pub sorted_stops : List ℕ → List Stop → List Stop
sorted_stops rules [] = []
sorted_stops rules (s ∷ ss) = with_stop rules s (sorted_stops rules ss)

-- a number for each rule; 0 for a rule that does not move a process
abbrev pub listed : Automaton → Pattern → Counts → List ℤ
listed a p n = map (λ r. cond (is_moving p (slice_get a.rules r)) (pos (n r)) (pos 0)) (range_with_len 0 (length a.rules))

-- the firings between two positions
abbrev pub firings_to : Automaton → Pattern → Counts → Counts → List ℤ
firings_to a p v w = listed a p (λ r. w r - v r)

-- the piece that leads from a position to a stop: the firings between, arranged, and the mark of the event that happens there
pub record PieceTo (a : Automaton) (p : Pattern) (v : Counts) (s : Stop) (piece : Piece) : Type 0 where
  pub steps : ArrangedOf a (firings_to a p v s.counts) piece.steps
  pub none_last : piece.last ≡ None
  pub marks : piece.marks ≡ s.marks

-- one piece for each stop, in order
abbrev pub PiecesTo : Automaton → Pattern → Counts → List Stop → List Piece → Type 0
PiecesTo a p v [] [] = Unit {0}
PiecesTo a p v [] (piece ∷ pieces) = ⊥
PiecesTo a p v (s ∷ ss) [] = ⊥
PiecesTo a p v (s ∷ ss) (piece ∷ pieces) = PieceTo a p v s piece × PiecesTo a p s.counts ss pieces

-- no rule fired
abbrev pub no_counts : Counts
no_counts r = 0
