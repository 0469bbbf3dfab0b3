-- Which patterns moments always decide (this project's profile): those of files without fall guards, where no condition has a positive
-- constant. A vertex at which nothing is asked, times the least common denominator of its values, meets each row, so no node is split;
-- each guard and each order is asked once, so the trees are finite. Only a number outside the range leaves such a pattern undecided
use Rattle.std.specs.Prelude.{ℕ, ℤ, ◌+◌, ◌-◌, ◌*◌, ◌/◌, ◌^◌, ◌≤◌, ◌≡◌, List, length, slice_get, None, Some}
use Rattle.ta_automaton.specs.declared.automaton.Automaton.{Automaton}
use Rattle.ta_automaton.specs.declared.file.File.{File}
use Rattle.ta_automaton.specs.declared.pattern.Pattern.{Pattern}
use Rattle.ta_automaton.specs.Runs.{LoopsPure, Safe}
use Rattle.ta_base.specs.declared.limits.TheConstants.{MOST_NODES}
use Rattle.ta_base.specs.Masks.{In}
use Rattle.ta_encode.specs.Search.{Comes, Pending}
use Rattle.ta_moments.specs.declared.fact.Fact.{Fact}
use Rattle.ta_moments.specs.Facts.{candidates}
use Rattle.ta_moments.specs.Forms.{UnknownForm}
use Rattle.ta_moments.specs.Questions.{Values, known_value}
use Rattle.ta_moments.specs.Refutes.{Node, node_rows, of_events}
use Rattle.ta_moments.specs.Scaled.{IsCone}
use Rattle.ta_moments.specs.Vertices.{values_of}
use Rattle.ta_moment_tree.specs.Makers.{moments_of, node_of, whole_values}
use Rattle.ta_replay.specs.Shows.{Shows}
use Rattle.ta_simplex.specs.Vertex.{parts_of}
use Rattle.ta_simplex.specs.declared.fraction.Fraction.{Fraction}
use Rattle.ta_walk.specs.Ends.{IsSpent, IsUnbounded, NodeOf}
use Rattle.ta_walk.specs.Visit.{IsSettled, SplitVertex, VertexAt}
use Rattle.ta_walk.specs.declared.moment_end.MomentEnd.{MomentEnd}
use Rattle.ta_walk.specs.declared.moment_end.MomentEnd.TheVariants.{Refuted, Found as FoundRun, Spent, Overflow}
use Rattle.ta_walk.specs.MomentEnds.{IsMomentEnd, LostAt}

-- a row of a node isn't known at whole numbers: a number of its evaluation leaves the range
pub record RowLeaves (a : Automaton) (p : Pattern) (node : Node) (numbers : List ℤ) : Type 0 where
  pub row : UnknownForm
  pub listed : In row (node_rows a p of_events node)
  pub unknown : known_value (whole_values numbers) row ≡ None

-- the values of a vertex have no numbers in range over their least common denominator, or a row of the node isn't known at these numbers
abbrev pub ValuesLeave : Automaton → Pattern → Node → Values → Type 0
ValuesLeave a p node None = Unit {0}
ValuesLeave a p node (Some values) = RowLeaves a p node values.numbers

-- a vertex at which nothing is asked, and a number that leaves the range where its values are multiplied by their denominator
pub record ScalingLeaves (a : Automaton) (p : Pattern) (w : Pending Fact) : Type 0 where
  pub values : List Fraction
  pub vertex : VertexAt (moments_of a p of_events) w values
  pub settled : IsSettled (moments_of a p of_events) w values
  pub leaves : ValuesLeave a p (node_of w) (values_of (parts_of values))

-- a node without bounds to which the search comes is split only where such a number leaves the range
abbrev pub ConesAreNotSplit : Type 0
ConesAreNotSplit =
    (a : Automaton) (p : Pattern) → IsCone a p
    → (w : Pending Fact) → Comes (moments_of a p of_events) w.start w.past → IsUnbounded w
    → (unknown : ℕ) (floor : ℤ) → SplitVertex (moments_of a p of_events) w unknown floor → ScalingLeaves a p w

-- the moments of a node are events and first uses of rise guards
abbrev pub most_moments : Automaton → Pattern → ℕ
most_moments a p = length p.events + length a.rise

-- what may be asked: each rise guard, and the order of each two moments
abbrev pub most_questions : Automaton → Pattern → ℕ
most_questions a p = length a.rise + (most_moments a p * (most_moments a p - 1)) / 2

-- a tree for each candidate; each question has two answers
abbrev pub most_nodes : Automaton → Pattern → ℕ
most_nodes a p = length (candidates p) * 2 ^ (1 + most_questions a p)

-- within a budget the visit reaches a node without bounds where such a number leaves the range
abbrev pub SomeScalingLeaves : Automaton → Pattern → ℕ → Type 0
SomeScalingLeaves a p budget = (number : ℕ) × NodeOf (moments_of a p of_events) budget number (λ w. IsUnbounded w × ScalingLeaves a p w)

-- a budget of so many nodes is spent only there
abbrev pub BudgetsOfConesSuffice : Type 0
BudgetsOfConesSuffice =
    (a : Automaton) (p : Pattern) → IsCone a p
    → (budget count : ℕ) → most_nodes a p ≤ budget → IsSpent (moments_of a p of_events) budget count → SomeScalingLeaves a p budget

-- what an end of a visit says of a file's pattern of a number: it is safe; its run shows it; or a number leaves the range
abbrev pub Decides : File → ℕ → Pattern → ℕ → MomentEnd → Type 0
Decides file number p budget (Refuted count leaves) = Safe file.automaton p
Decides file number p budget (FoundRun count run) = (run.pattern ≡ number) × Shows file run
Decides file number p budget (Spent count) = SomeScalingLeaves file.automaton p budget
Decides file number p budget (Overflow node kind) = LostAt (moments_of file.automaton p of_events) file number of_events budget node kind

-- each end of a visit with such a budget decides so, whatever is kept of the tree
abbrev pub ConesAreDecided : Type 0
ConesAreDecided =
    (file : File) (number : ℕ) (p : Pattern) → slice_get file.patterns number ≡ Some p → LoopsPure file.automaton → IsCone file.automaton p
    → (budget : ℕ) → budget ≤ MOST_NODES → most_nodes file.automaton p ≤ budget
    → (end : MomentEnd) → IsMomentEnd file number p of_events budget (λ nodes. Unit {0}) end → Decides file number p budget end
