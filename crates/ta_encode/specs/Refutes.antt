-- Which trees refute a search and so are a proof: Farkas certificates at the leaves, integer branchings and extensions at the inner nodes.
-- Source: Schrijver, Theory of Linear and Integer Programming, 1986 (Farkas' lemma).
use Rattle.std.specs.Prelude.{ℕ, ℤ, pos, ◌<◌, List, [], ◌∷◌, map, slice_index_or, Option, Some, None}
use Rattle.ta_linear.specs.Leaf.{Leaf as FarkasLeaf}
use Rattle.ta_automaton.specs.declared.automaton.Automaton.{Automaton}
use Rattle.ta_automaton.specs.declared.pattern.Pattern.{Pattern}
use Rattle.ta_cert.specs.Tree.{Tree, Forest, Leaf, Ask, Split, Done, More}
use Rattle.ta_encode.specs.System.{LinearRow, Low, High}
use Rattle.ta_encode.specs.Search.{MayAsk, Pending, Search, answered, bounded, longer, bounded_rows}
pub use Rattle.ta_encode.specs.Search.{LeafTest, bound_at}
use Rattle.ta_encode.specs.PatternSearch.{pattern_search}

-- a row's coefficient of an unknown, and its constant; 0 where there is no row
abbrev pub linear_coefficient_in : ℕ → Option LinearRow → ℤ
linear_coefficient_in u None = pos 0
linear_coefficient_in u (Some row) = slice_index_or row.coefficients u (pos 0)

abbrev pub linear_constant_in : Option LinearRow → ℤ
linear_constant_in None = pos 0
linear_constant_in (Some row) = row.constant

-- positive multipliers of rows, row numbers rising, whose sum has no positive coefficient and a negative constant (Farkas' lemma)
abbrev pub LeafOfRows : List LinearRow → List (ℕ × ℤ) → Type 0
LeafOfRows rows ts = FarkasLeaf linear_coefficient_in linear_constant_in rows ts

-- multipliers of a schema's rows are such a leaf
abbrev pub IsLeaf : {E : Type 0} → Search E → Pending E → List (ℕ × ℤ) → Type 0
IsLeaf s w ts = LeafOfRows (bounded_rows s w) ts

unfoldable mutual
  -- a leaf that meets the test; or a node that may ask, with a tree for each answer; or a tree for each side of an unknown of the system
  pub RefutesBy : {E : Type 0} → Search E → LeafTest E → Pending E → Tree → Type 0
  RefutesBy s test w (Leaf ts) = test w ts
  RefutesBy s test w (Ask n trees) = MayAsk s w.start w.past n × RefuteEach s test (map (longer w) (answered s w.start w.past n)) trees
  RefutesBy s test w (Split unknown floor low high) =
      (unknown < s.unknowns w.start w.past)
      × RefutesBy s test (bounded w (bound_at unknown floor Low)) low
      × RefutesBy s test (bounded w (bound_at unknown floor High)) high

  -- one tree for each schema, in order; each tree refutes its schema
  pub RefuteEach : {E : Type 0} → Search E → LeafTest E → List (Pending E) → Forest → Type 0
  RefuteEach s test [] Done = Unit {0}
  RefuteEach s test (w ∷ ws) Done = ⊥
  RefuteEach s test [] (More tree trees) = ⊥
  RefuteEach s test (w ∷ ws) (More tree trees) = RefutesBy s test w tree × RefuteEach s test ws trees

-- the same for a list of trees
abbrev pub RefuteAll : {E : Type 0} → Search E → LeafTest E → List (Pending E) → List Tree → Type 0
RefuteAll s test [] [] = Unit {0}
RefuteAll s test (w ∷ ws) [] = ⊥
RefuteAll s test [] (tree ∷ trees) = ⊥
RefuteAll s test (w ∷ ws) (tree ∷ trees) = RefutesBy s test w tree × RefuteAll s test ws trees

-- a proof whose leaves meet a test: one tree for each schema with which the search begins
abbrev pub ProofBy : {E : Type 0} → Search E → LeafTest E → List Tree → Type 0
ProofBy s test trees = RefuteAll s test s.roots trees

-- a proof of a pattern under pairs: one tree for each set of fall guards that may be false at the start
abbrev pub ProofOf : Automaton → Pattern → List (ℕ × ℕ) → List Tree → Type 0
ProofOf a p pairs trees = ProofBy (pattern_search a p pairs) (IsLeaf (pattern_search a p pairs)) trees
