-- What a run is built from: a node's encoding, and values of its unknowns at which no question is left.
use Rattle.std.specs.Prelude.{ℕ, ℤ, pos, ◌≡◌, List, map, slice_get, Some}
use Rattle.std.specs.List.{AllByRecursion}
use Rattle.ta_automaton.specs.declared.file.File.{File}
use Rattle.ta_linear.specs.Sums.{StaysInRange}
use Rattle.ta_linear.specs.Values.{point_of}
use Rattle.ta_linear.specs.declared.form.Form.{Form}
use Rattle.ta_automaton.specs.declared.pattern.Pattern.{Pattern}
use Rattle.ta_moments.specs.Refutes.{Asking, Node, of_rest}
use Rattle.ta_moments.specs.Nodes.{AskedOnce}
use Rattle.ta_rest.specs.Endings.{ComesLast, IsEnding}
use Rattle.ta_witness.specs.Witness.{IsShortRun}
use Rattle.ta_witness.specs.Resting.{EndRestsQuietly, OccursAtQuietRest}
use Rattle.ta_moments.specs.Whole.{WholeNode}
use Rattle.ta_moment_tree.specs.Nodes.{IsNode}
use Rattle.ta_moment_tree.specs.declared.encoding.MomentEncoding.{MomentEncoding}
use Rattle.ta_moment_tree.specs.declared.moment.Moment.{Moment}
use Rattle.ta_moment_tree.specs.declared.moment.Moment.TheVariants.{Point, Pair}
use Rattle.ta_replay.specs.Replays.{ReplayStays}
use Rattle.ta_replay.specs.declared.run.Run.{Run}
use Rattle.ta_witness.specs.declared.fault.WitnessFault.{WitnessFault}
use Rattle.ta_witness.specs.declared.fault.WitnessFault.TheVariants.{Overflow, Memory}
use Rattle.ta_witness.specs.MomentRuns.{MomentRunOf}

-- an encoding is that of a node of a file's pattern, and numbers are natural values of its unknowns at which no question is left
pub record EncodesWhole (file : File) (number : ℕ) (encoding : MomentEncoding) (numbers : List ℤ) (asking : Asking) (node : Node) (values : List ℕ) : Type 0
  where
    pub automaton : encoding.plan.task.automaton.now ≡ file.automaton
    pub named : slice_get file.patterns number ≡ Some encoding.plan.task.pattern.now
    pub encodes : IsNode asking.silent node.candidate node.past encoding
    pub are : numbers ≡ map pos values
    pub whole : WholeNode encoding.plan.task.automaton.now encoding.plan.task.pattern.now asking node values

-- the same for some node
pub record EncodesSomeWhole (file : File) (number : ℕ) (encoding : MomentEncoding) (numbers : List ℤ) : Type 0 where
  pub asking : Asking
  pub node : Node
  pub values : List ℕ
  pub is : EncodesWhole file number encoding numbers asking node values

-- a run of the encoding's node, however the node is described
abbrev pub RunOfEncoding : File → ℕ → MomentEncoding → List ℤ → Run → Type 0
RunOfEncoding file number encoding numbers run =
    (asking : Asking) (node : Node) (values : List ℕ) → EncodesWhole file number encoding numbers asking node values
    → MomentRunOf file number asking node values run

-- each form of a vector is evaluated within the range
abbrev pub VectorStays : List ℤ → List Form → Type 0
VectorStays numbers forms = AllByRecursion (λ (form : Form). StaysInRange (point_of numbers) form.constant form.terms) forms

abbrev pub MomentStays : List ℤ → Moment → Type 0
MomentStays numbers (Point v) = VectorStays numbers v.items
MomentStays numbers (Pair v w) = VectorStays numbers v.items × VectorStays numbers w.items

-- all numbers in the making of a run stay in range: those of the moments' forms, and those of its replay
pub record StaysWithin (file : File) (encoding : MomentEncoding) (numbers : List ℤ) (run : Run) : Type 0 where
  pub moments : AllByRecursion (MomentStays numbers) encoding.draft.moments.items
  pub replay : ReplayStays file run

-- a number of the making of the node's run leaves the range
pub record LeavesRange (file : File) (number : ℕ) (encoding : MomentEncoding) (numbers : List ℤ) : Type 0 where
  pub leaves : (run : Run) → RunOfEncoding file number encoding numbers run → ¬ StaysWithin file encoding numbers run

-- why there is no run; "out of memory" is always allowed
abbrev pub MomentRunFault : File → ℕ → MomentEncoding → List ℤ → WitnessFault → Type 0
MomentRunFault file number encoding numbers Overflow = LeavesRange file number encoding numbers
MomentRunFault file number encoding numbers Memory = Unit {0}

-- what the run of an encoding's node is at rest, and how long it is, however the node is described: if each question was asked once, it is
-- short; at rest, if the pattern's last event comes after all others, it comes to quiet rest
abbrev pub ShortOfEncoding : File → ℕ → MomentEncoding → List ℤ → Run → Type 0
ShortOfEncoding file number encoding numbers run =
    (asking : Asking) (node : Node) (values : List ℕ) → EncodesWhole file number encoding numbers asking node values
    → AskedOnce node.past → IsShortRun file run

abbrev pub RestOfEncoding : File → ℕ → MomentEncoding → List ℤ → Run → Type 0
RestOfEncoding file number encoding numbers run =
    (silent : List ℕ) (node : Node) (values : List ℕ) → EncodesWhole file number encoding numbers (of_rest silent) node values
    → ComesLast encoding.plan.task.pattern.now
    → EndRestsQuietly file silent run × OccursAtQuietRest file.automaton silent encoding.plan.task.pattern.now run
    × ((p : Pattern) → IsEnding p encoding.plan.task.pattern.now → OccursAtQuietRest file.automaton silent p run)
