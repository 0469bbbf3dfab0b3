-- Whole nodes that a visit of moments finds, and their runs.
use Rattle.std.specs.Prelude.{ℕ, ℤ, pos, ◌≡◌, List, map}
use Rattle.ta_automaton.specs.declared.file.File.{File}
use Rattle.ta_encode.specs.Search.{Pending, Search}
use Rattle.ta_moments.specs.declared.fact.Fact.{Fact}
use Rattle.ta_moments.specs.Refutes.{Asking}
use Rattle.ta_witness.specs.MomentRuns.{MomentRunOf, WholeOf}
use Rattle.ta_moment_tree.specs.Makers.{node_of}
use Rattle.ta_replay.specs.declared.run.Run.{Run}
use Rattle.ta_replay.specs.Replays.{ReplayStays}
use Rattle.ta_replay.specs.Shows.{Shows}
use Rattle.ta_walk.specs.Visit.{WholeAt}
use Rattle.ta_witness.specs.Witness.{IsShortRun}

-- a node, and the values that are taken there
pub record Found : Type 0 where
  pub pending : Pending Fact
  pub numbers : List ℤ

-- it is a whole node of a search
abbrev pub FoundAt : Search Fact → Found → Pending Fact → Type 0
FoundAt s found w = (found.pending ≡ w) × WholeAt s w found.numbers

-- the run of such a node of a file's pattern with this number: its values are natural, and leave no question
pub record RunAt (file : File) (number : ℕ) (asking : Asking) (found : Found) (run : Run) : Type 0 where
  pub values : List ℕ
  pub are : found.numbers ≡ map pos values
  pub whole : WholeOf file number asking (node_of found.pending) values
  pub is : MomentRunOf file number asking (node_of found.pending) values run

-- that run shows the pattern in a replay that stays in range, and has at most (guards + events) * (rules + 1) steps
pub record ShownRun (file : File) (number : ℕ) (asking : Asking) (found : Found) (run : Run) : Type 0 where
  pub is : RunAt file number asking found run
  pub shows : Shows file run
  pub stays : ReplayStays file run
  pub short : IsShortRun file run

-- a number of the replay of that run leaves the range
pub record RunLeaves (file : File) (number : ℕ) (asking : Asking) (found : Found) : Type 0 where
  pub leaves : (run : Run) → RunAt file number asking found run → ReplayStays file run → ⊥
