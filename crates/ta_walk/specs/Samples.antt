-- How the search for a sample of the parameters ends.
use Rattle.std.specs.Prelude.{ℕ, ℤ, pos, ◌≡◌, List, length, map, take}
use Rattle.ta_words.specs.declared.element.Element.{Element}
use Rattle.ta_automaton.specs.declared.automaton.Automaton.{Automaton}
use Rattle.ta_cert.specs.declared.line.Node.{Node}
use Rattle.ta_encode.specs.Sample.{HasStart, sample_search}
use Rattle.ta_encode.specs.Search.{Pending}
use Rattle.ta_walk.specs.declared.end.SampleEnd.{SampleEnd}
use Rattle.ta_walk.specs.declared.end.SampleEnd.TheVariants.{Sample, Empty, Spent, Overflow}
use Rattle.ta_walk.specs.Ends.{IsSpent, NodeOf, TreeIs}
use Rattle.ta_walk.specs.Visit.{IsOutOfRangeAt, WholeAt}

-- a whole node, whose first values are these of the parameters
pub record SampleAt (a : Automaton) (parameters : List ℤ) (w : Pending Element) : Type 0 where
  pub values : List ℤ
  pub whole : WholeAt (sample_search a) w values
  pub first : parameters ≡ take (length a.parameters) values

-- the node of some number within the budget is the first whole one, with these values of the parameters
pub record SampleFound (a : Automaton) (budget : ℕ) (parameters : List ℤ) : Type 0 where
  pub number : ℕ
  pub node : NodeOf (sample_search a) budget number (SampleAt a parameters)

-- the tree has no whole node, and no more nodes than the budget
pub record SampleRefuted (a : Automaton) (budget : ℕ) : Type 0 where
  pub nodes : List Node
  pub count : ℕ
  pub tree : TreeIs (sample_search a) budget nodes count

-- the search for a sample ends so within a budget
abbrev pub IsSampleEnd : Automaton → ℕ → SampleEnd → Type 0
IsSampleEnd a budget (Sample parameters) = SampleFound a budget parameters
IsSampleEnd a budget Empty = SampleRefuted a budget
IsSampleEnd a budget (Spent count) = IsSpent (sample_search a) budget count
IsSampleEnd a budget (Overflow node kind) = NodeOf (sample_search a) budget node (λ w. IsOutOfRangeAt (sample_search a) w kind)

-- the search for a sample has one end
abbrev pub SampleEndsAreDetermined : Type 0
SampleEndsAreDetermined = (a : Automaton) (budget : ℕ) (e f : SampleEnd) → IsSampleEnd a budget e → IsSampleEnd a budget f → e ≡ f

-- a sample has natural values that meet the resilience condition and have an initial configuration; where there is none, no values do
pub record SamplesAreReal : Type 0 where
  pub found : (a : Automaton) (budget : ℕ) (parameters : List ℤ) → IsSampleEnd a budget (Sample parameters) → (values : List ℕ) × (parameters ≡ map pos values)
      × HasStart a values
  pub none : (a : Automaton) (budget : ℕ) → IsSampleEnd a budget Empty → (values : List ℕ) → ¬ HasStart a values
