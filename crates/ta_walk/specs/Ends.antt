-- How a search, a visit and the walk of a pattern end.
use Rattle.std.specs.Prelude.{ℕ, ℤ, pos, ◌+◌, ◌*◌, ◌≤◌, ◌<◌, ◌^◌, ◌≡◌, List, [], ◌∷◌, length, map, reverse, slice_get, Some}
use Rattle.std.specs.List.{AllByRecursion}
use Rattle.ta_base.specs.declared.limits.TheConstants.{MOST_EVENTS, MOST_NODES, MOST_UNKNOWNS}
use Rattle.ta_automaton.specs.declared.automaton.Automaton.{Automaton}
use Rattle.ta_automaton.specs.declared.pattern.Pattern.{Pattern}
use Rattle.ta_automaton.specs.declared.file.File.{File}
use Rattle.ta_automaton.specs.Narrow.{IsNarrow}
use Rattle.ta_automaton.specs.Runs.{LoopsPure}
use Rattle.ta_cert.specs.declared.line.Node.{Node}
use Rattle.ta_implied.specs.Implied.{Good}
use Rattle.ta_cert.specs.declared.line.Node.TheVariants.{Leaf}
use Rattle.ta_cert.specs.Lines.{IsNode, node_text}
use Rattle.ta_words.specs.declared.element.Element.{Element}
use Rattle.ta_encode.specs.declared.encoded.Solution.{Solution}
use Rattle.ta_encode.specs.InPreorder.{Pending, RefutedInOrder}
use Rattle.ta_encode.specs.Laws.{SolvedUnder}
use Rattle.ta_encode.specs.Search.{Search, SolvesAt}
use Rattle.ta_encode.specs.PatternSearch.{pattern_search}
use Rattle.ta_encode.specs.Range.{IsJudged}
use Rattle.ta_rest.specs.Claims.{MayClaim, claimed, search_for}
use Rattle.ta_rest.specs.declared.claim.Claim.{Claim}
use Rattle.ta_walk.specs.declared.end.PlaceKind.{PlaceKind}
use Rattle.ta_walk.specs.declared.end.TreeEnd.{TreeEnd}
use Rattle.ta_walk.specs.declared.end.TreeEnd.TheVariants as tree
use Rattle.ta_walk.specs.declared.end.VisitEnd.{VisitEnd}
use Rattle.ta_walk.specs.declared.end.VisitEnd.TheVariants as visit
use Rattle.ta_walk.specs.declared.end.WalkEnd.{WalkEnd}
use Rattle.ta_walk.specs.declared.end.WalkEnd.TheVariants.{Refuted, Found, Spent, Overflow}
use Rattle.ta_simplex.specs.declared.fraction.Fraction.{Fraction}
use Rattle.ta_walk.specs.Visit.{Visits, VertexAt, WholeAt, IsOutOfRangeAt, parts_of}

-- how many nodes a visit with this end visited
abbrev pub node_count : {E : Type 0} → TreeEnd E → ℕ
node_count (tree.Refuted count leaves) = count
node_count (tree.Found count start facts values) = count
node_count (tree.Spent count) = count
node_count (tree.Overflow node kind) = node

-- a schema without bounds
abbrev pub IsUnbounded : {E : Type 0} → Pending E → Type 0
IsUnbounded w = w.bounds ≡ []

-- the tree of a search has these nodes, within the budget
pub record TreeIs {E : Type 0} (s : Search E) (budget : ℕ) (nodes : List Node) (count : ℕ) : Type 0 where
  pub visits : Visits s s.roots nodes []
  pub counted : count ≡ length nodes
  pub within : count ≤ budget

-- this many nodes were visited, and then a schema is left
pub record IsVisited {E : Type 0} (s : Search E) (count : ℕ) (w : Pending E) : Type 0 where
  pub nodes : List Node
  pub words : List (Pending E)
  pub visits : Visits s s.roots nodes (w ∷ words)
  pub counted : length nodes ≡ count

-- the node of this number
pub record NodeOf {E : Type 0} (s : Search E) (budget : ℕ) (number : ℕ) (fact : Pending E → Type 0) : Type 0 where
  pub before : ℕ
  pub number_is : number ≡ before + 1
  pub within : number ≤ budget
  pub word : Pending E
  pub visited : IsVisited s before word
  pub holds : fact word

-- some schema is left when the budget is exhausted
pub record IsSpent {E : Type 0} (s : Search E) (budget count : ℕ) : Type 0 where
  pub counted : count ≡ budget
  pub word : Pending E
  pub visited : IsVisited s budget word

-- an end of a search: the nodes of its tree and how many these are; the number of the first whole node, its schema and its values; an
-- exhausted budget; or the number of the first node at which a number leaves the range, and where
pub data Ending (E : Type 0) : Type 0 where
  Whole : List Node → ℕ → Ending E
  Solved : ℕ → Pending E → List ℤ → Ending E
  Stopped : ℕ → Ending E
  Left : ℕ → PlaceKind → Ending E

-- a search ends so within a budget
abbrev pub IsVisitEnding : {E : Type 0} → Search E → ℕ → Ending E → Type 0
IsVisitEnding s budget (Whole nodes count) = TreeIs s budget nodes count
IsVisitEnding s budget (Solved number word values) = NodeOf s budget number (λ w. (w ≡ word) × WholeAt s w values)
IsVisitEnding s budget (Stopped count) = IsSpent s budget count
IsVisitEnding s budget (Left number kind) = NodeOf s budget number (λ w. IsOutOfRangeAt s w kind)

-- a search has one end within a budget
abbrev pub EndingsAreDetermined : Type 0 → Type 0
EndingsAreDetermined E = (s : Search E) (budget : ℕ) (e f : Ending E) → IsVisitEnding s budget e → IsVisitEnding s budget f → e ≡ f

-- these are natural numbers that solve a schema's system
abbrev pub AreSolution : {E : Type 0} → Search E → Pending E → List ℤ → Type 0
AreSolution s w numbers = (values : List ℕ) × (numbers ≡ map pos values) × SolvesAt s w values

-- the integer values that a maker takes in place of a vertex's solve the system
abbrev pub ScaledSolve : {E : Type 0} → Search E → Type 0
ScaledSolve {E} s = (w : Pending E) (values : List Fraction) (numbers : List ℤ) → VertexAt s w values → s.scaled w (parts_of values) ≡ Some numbers
    → AreSolution s w numbers

-- then the values of each whole node are natural numbers that solve its schema's system
abbrev pub WholeNodesSolve : Type 0 → Type 0
WholeNodesSolve E = (s : Search E) → ScaledSolve s → (w : Pending E) (numbers : List ℤ) → WholeAt s w numbers → AreSolution s w numbers

-- a solution at a schema of a search, for the pattern with this number: its values are those of a whole node
pub record SolutionAt (s : Search Element) (number : ℕ) (solution : Solution) (w : Pending Element) : Type 0 where
  pub pattern : solution.pattern ≡ number
  pub start : solution.start_mask ≡ w.start
  pub word : reverse solution.word ≡ w.past
  pub whole : WholeAt s w solution.values

-- how the walk of a search whose schemas are those of the pattern with this number ends within a budget
abbrev pub IsWalkEnd : Search Element → ℕ → ℕ → WalkEnd → Type 0
IsWalkEnd s number budget (Refuted nodes count) = TreeIs s budget nodes count
IsWalkEnd s number budget (Found count solution) = NodeOf s budget count (SolutionAt s number solution)
IsWalkEnd s number budget (Spent count) = IsSpent s budget count
IsWalkEnd s number budget (Overflow node kind) = NodeOf s budget node (λ w. IsOutOfRangeAt s w kind)

-- how many of some nodes are leaves
abbrev pub leaf_count : List Node → ℕ
leaf_count [] = 0
leaf_count (Leaf ts ∷ ns) = leaf_count ns + 1
leaf_count (n ∷ ns) = leaf_count ns

-- the tree has this many nodes, within the budget, and this many of them are leaves; what was kept is what they leave
pub record TreeKept {E : Type 0} (s : Search E) (budget : ℕ) (Keeps : List Node → Type 0) (count leaves : ℕ) : Type 0 where
  pub nodes : List Node
  pub is : TreeIs s budget nodes count
  pub counted : leaves ≡ leaf_count nodes
  pub kept : Keeps nodes

-- a node with this start and these facts, in order, and the values of a whole node
pub record WholeNode {E : Type 0} (s : Search E) (start : ℕ) (facts : List E) (values : List ℤ) (w : Pending E) : Type 0 where
  pub start_is : start ≡ w.start
  pub facts_are : reverse facts ≡ w.past
  pub whole : WholeAt s w values

-- how a visit of a tree ends: if the tree is refuted, `Keeps` holds of its nodes
abbrev pub IsTreeEnd : {E : Type 0} → Search E → ℕ → (List Node → Type 0) → TreeEnd E → Type 0
IsTreeEnd s budget Keeps (tree.Refuted count leaves) = TreeKept s budget Keeps count leaves
IsTreeEnd s budget Keeps (tree.Found count start facts values) = NodeOf s budget count (WholeNode s start facts values)
IsTreeEnd s budget Keeps (tree.Spent count) = IsSpent s budget count
IsTreeEnd s budget Keeps (tree.Overflow node kind) = NodeOf s budget node (λ w. IsOutOfRangeAt s w kind)

-- the same for a pattern's tree: a walk ends so
abbrev pub IsVisitEnd : Search Element → ℕ → ℕ → (List Node → Type 0) → VisitEnd → Type 0
IsVisitEnd s number budget Keeps (visit.Refuted count leaves) = TreeKept s budget Keeps count leaves
IsVisitEnd s number budget Keeps (visit.Found count solution) = IsWalkEnd s number budget (Found count solution)
IsVisitEnd s number budget Keeps (visit.Spent count) = IsWalkEnd s number budget (Spent count)
IsVisitEnd s number budget Keeps (visit.Overflow node kind) = IsWalkEnd s number budget (Overflow node kind)

-- the same of the visit of a pattern's tree
abbrev pub visit_count : VisitEnd → ℕ
visit_count (visit.Refuted count leaves) = count
visit_count (visit.Found count solution) = count
visit_count (visit.Spent count) = count
visit_count (visit.Overflow node kind) = node

-- a walk has one end
abbrev pub WalksAreDetermined : Type 0
WalksAreDetermined = (s : Search Element) (number budget : ℕ) (e f : WalkEnd) → IsWalkEnd s number budget e → IsWalkEnd s number budget f → e ≡ f

-- how many unknowns a node of moments has at most: the parameters and the counters at the start, and for each event and each guard how often
-- each rule fired
abbrev pub most_unknowns : Automaton → ℕ
most_unknowns a = length a.parameters + length a.locations + (MOST_EVENTS + length a.rise + length a.fall) * length a.rules

-- where a system has at most so many unknowns, a leaf has one multiplier more at most
abbrev pub HasFewPairs : ℕ → Node → Type 0
HasFewPairs unknowns (Leaf ts) = length ts ≤ unknowns + 1
HasFewPairs unknowns n = Unit {0}

-- the text of a node has at most so many bytes
abbrev pub IsShort : ℕ → Node → Type 0
IsShort limit n = length (node_text n) ≤ limit

-- nodes that are a proof which the checker accepts, over systems of at most so many unknowns; each node can be written in a line, if that may
-- have 51 bytes for each unknown
pub record IsProof {E : Type 0} (unknowns : ℕ) (s : Search E) (nodes : List Node) : Type 0 where
  pub refutes : RefutedInOrder s (IsJudged s) s.roots nodes
  pub writable : AllByRecursion IsNode nodes
  pub few : AllByRecursion (HasFewPairs unknowns) nodes
  pub short : (limit : ℕ) → 51 * unknowns + 64 ≤ limit → AllByRecursion (IsShort limit) nodes

-- the nodes of a whole tree of a claim on a narrow automaton are such a proof, and the claim holds of the pattern, whichever good pairs of
-- guards ordered its schemas
abbrev pub RefutedClaimsHold : Type 0
RefutedClaimsHold =
    (claim : Claim) (file : File) (number : ℕ) (p : Pattern) → slice_get file.patterns number ≡ Some p → IsNarrow file.automaton → MayClaim claim p
    → LoopsPure file.automaton → (pairs : List (ℕ × ℕ)) → Good file.automaton pairs
    → (budget : ℕ) → budget ≤ MOST_NODES
    → (nodes : List Node) (count : ℕ) → TreeIs (search_for claim file.automaton p pairs) budget nodes count
    → IsProof MOST_UNKNOWNS (search_for claim file.automaton p pairs) nodes × claimed claim file.automaton p

-- what a walk finds is a complete schema that is legal under the pairs, with natural values that solve its system
abbrev pub FoundWordsAreSolved : Type 0
FoundWordsAreSolved =
    (a : Automaton) (p : Pattern) (pairs : List (ℕ × ℕ)) (number budget count : ℕ) (solution : Solution)
    → NodeOf (pattern_search a p pairs) budget count (SolutionAt (pattern_search a p pairs) number solution)
    → (values : List ℕ) × (solution.values ≡ map pos values) × (solution.start_mask < 2 ^ length a.fall)
    × SolvedUnder a p pairs solution.start_mask solution.word values
