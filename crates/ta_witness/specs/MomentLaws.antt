-- The run of a whole node shows its pattern, is unique and is short.
use Rattle.std.specs.Prelude.{ℕ, ◌≡◌, List}
use Rattle.ta_automaton.specs.Runs.{InScope}
use Rattle.ta_automaton.specs.declared.file.File.{File}
use Rattle.ta_moments.specs.Refutes.{Asking, Node}
use Rattle.ta_replay.specs.Shows.{Shows}
use Rattle.ta_replay.specs.declared.run.Run.{Run}
use Rattle.ta_moments.specs.Nodes.{AskedOnce}
use Rattle.ta_witness.specs.Witness.{IsShortRun}
use Rattle.ta_witness.specs.MomentRuns.{MomentRunOf, WholeOf}

-- the run of a whole node shows the pattern
abbrev pub MomentRunsShow : Type 0
MomentRunsShow =
    (file : File) → InScope file.automaton
    → (number : ℕ) (asking : Asking) (node : Node) (values : List ℕ) → WholeOf file number asking node values
    → (run : Run) → MomentRunOf file number asking node values run
    → Shows file run

-- a node has one run at its values
abbrev pub MomentRunsAreDetermined : Type 0
MomentRunsAreDetermined =
    (file : File) (number : ℕ) (asking : Asking) (node : Node) (values : List ℕ) (r s : Run)
    → MomentRunOf file number asking node values r → MomentRunOf file number asking node values s
    → r ≡ s

-- where each question was asked once, the run of a whole node is short
abbrev pub MomentRunsAreShort : Type 0
MomentRunsAreShort =
    (file : File) → InScope file.automaton
    → (number : ℕ) (asking : Asking) (node : Node) (values : List ℕ) → WholeOf file number asking node values → AskedOnce node.past
    → (run : Run) → MomentRunOf file number asking node values run
    → IsShortRun file run
