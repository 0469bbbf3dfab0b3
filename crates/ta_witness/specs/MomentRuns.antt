-- The run (counterexample) of a whole node of the tree of questions.
use Rattle.std.specs.Prelude.{ℕ, ℤ, pos, ◌≡◌, List, length, map, slice_get, Some}
use Rattle.std.specs.List.{range_with_len}
use Rattle.ta_automaton.specs.declared.automaton.Automaton.{Automaton}
use Rattle.ta_automaton.specs.declared.file.File.{File}
use Rattle.ta_automaton.specs.declared.pattern.Pattern.{Pattern}
use Rattle.ta_encode.specs.Unknowns.{start_meanings}
use Rattle.ta_encode.specs.declared.meaning.Meaning.{Meaning}
use Rattle.ta_encode.specs.declared.meaning.Meaning.TheVariants.{Parameter, Start}
use Rattle.ta_moments.specs.Facts.{moving_rules}
use Rattle.ta_moments.specs.Refutes.{Asking, Node}
use Rattle.ta_moments.specs.Whole.{WholeNode}
use Rattle.ta_replay.specs.Pieces.{Piece, pieces_lines}
use Rattle.ta_replay.specs.declared.run.Run.{Run}
use Rattle.ta_witness.specs.Values.{unknown_value}
use Rattle.ta_witness.specs.Stops.{PiecesTo, no_counts, node_stops, sorted_stops}

-- the value of a parameter or a start count, 0 for an initial location that is kept empty
abbrev pub start_value : Automaton → Pattern → List ℕ → Meaning → ℤ
start_value a p values m = unknown_value (start_meanings a p) (map pos values) m

-- natural values of a pattern's node at which no question is left
pub record WholeOf (file : File) (number : ℕ) (asking : Asking) (node : Node) (values : List ℕ) : Type 0 where
  pub pattern : Pattern
  pub named : slice_get file.patterns number ≡ Some pattern
  pub whole : WholeNode file.automaton pattern asking node values

-- the run of a pattern's node at natural values: their parameters and start counts; then, from no firing to the first stop and from each
-- stop to the next, the missing firings, arranged, and the marks of the events that happen there
pub record MomentRunOf (file : File) (number : ℕ) (asking : Asking) (node : Node) (values : List ℕ) (run : Run) : Type 0 where
  pub pattern : Pattern
  pub named : slice_get file.patterns number ≡ Some pattern
  pub same_pattern : run.pattern ≡ number
  pub parameters : run.parameters ≡ map (λ i. start_value file.automaton pattern values (Parameter i)) (range_with_len 0 (length file.automaton.parameters))
  pub counts : run.counts ≡ map (λ l. start_value file.automaton pattern values (Start l)) file.automaton.initial
  pub pieces : List Piece
  pub are : PiecesTo file.automaton pattern no_counts
      (sorted_stops (moving_rules file.automaton pattern) (node_stops file.automaton pattern asking node values)) pieces
  pub lines : run.lines ≡ pieces_lines pieces
