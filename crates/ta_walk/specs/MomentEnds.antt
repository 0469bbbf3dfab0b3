-- How a visit of the moments of a file's pattern ends.
use Rattle.std.specs.Prelude.{ℕ, List}
use Rattle.ta_automaton.specs.declared.file.File.{File}
use Rattle.ta_automaton.specs.declared.pattern.Pattern.{Pattern}
use Rattle.ta_cert.specs.declared.line.Node.{Node}
use Rattle.ta_encode.specs.Search.{Search}
use Rattle.ta_moments.specs.declared.fact.Fact.{Fact}
use Rattle.ta_moments.specs.Refutes.{Asking}
use Rattle.ta_moment_tree.specs.Makers.{moments_of}
use Rattle.ta_replay.specs.Fits.{Fits}
use Rattle.ta_replay.specs.declared.run.Run.{Run}
use Rattle.ta_walk.specs.Ends.{IsSpent, NodeOf, TreeKept}
use Rattle.ta_walk.specs.Visit.{IsOutOfRangeAt}
use Rattle.ta_walk.specs.declared.end.PlaceKind.{PlaceKind}
use Rattle.ta_walk.specs.declared.end.PlaceKind.TheVariants as kind
use Rattle.ta_walk.specs.declared.moment_end.MomentEnd.{MomentEnd}
use Rattle.ta_walk.specs.declared.moment_end.MomentEnd.TheVariants.{Refuted, Found as FoundRun, Spent, Overflow}
use Rattle.ta_walk.specs.Found.{Found, FoundAt, RunLeaves, ShownRun}

-- the run is that of the first whole node, which has this number, within the budget
pub record RunFound (s : Search Fact) (file : File) (number : ℕ) (asking : Asking) (budget count : ℕ) (run : Run) : Type 0 where
  pub found : Found
  pub node : NodeOf s budget count (FoundAt s found)
  pub shown : ShownRun file number asking found run

-- the first whole node has this number, within the budget, and a number of the replay of its run leaves the range
pub record RunLost (s : Search Fact) (file : File) (number : ℕ) (asking : Asking) (budget node : ℕ) : Type 0 where
  pub found : Found
  pub is : NodeOf s budget node (FoundAt s found)
  pub leaves : RunLeaves file number asking found

-- where a number leaves the range: in a pivot, in the check of a leaf, or in the replay of the run of a whole node
abbrev pub LostAt : Search Fact → File → ℕ → Asking → ℕ → ℕ → PlaceKind → Type 0
LostAt s file number asking budget node (kind.Pivot pivot) = NodeOf s budget node (λ w. IsOutOfRangeAt s w (kind.Pivot pivot))
LostAt s file number asking budget node kind.Leaf = NodeOf s budget node (λ w. IsOutOfRangeAt s w kind.Leaf)
LostAt s file number asking budget node kind.Run = RunLost s file number asking budget node

-- a visit ends so: if its tree is refuted, `Keeps` holds of the nodes
abbrev pub EndsIn : Search Fact → File → ℕ → Asking → ℕ → (List Node → Type 0) → MomentEnd → Type 0
EndsIn s file number asking budget Keeps (Refuted count leaves) = TreeKept s budget Keeps count leaves
EndsIn s file number asking budget Keeps (FoundRun count run) = RunFound s file number asking budget count run
EndsIn s file number asking budget Keeps (Spent count) = IsSpent s budget count
EndsIn s file number asking budget Keeps (Overflow node kind) = LostAt s file number asking budget node kind

-- a visit of the moments of the file's pattern with this number ends so
abbrev pub IsMomentEnd : File → ℕ → Pattern → Asking → ℕ → (List Node → Type 0) → MomentEnd → Type 0
IsMomentEnd file number p asking budget Keeps end = EndsIn (moments_of file.automaton p asking) file number asking budget Keeps end

-- the run that is found fits the file
abbrev pub EndFits : File → MomentEnd → Type 0
EndFits file (Refuted count leaves) = Unit {0}
EndFits file (FoundRun count run) = Fits file run
EndFits file (Spent count) = Unit {0}
EndFits file (Overflow node kind) = Unit {0}
