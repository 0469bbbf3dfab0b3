-- The tree of a search, node by node: the least-index rule solves each system, and an unknown is split (integer branching) where nothing is
-- asked.
use Rattle.std.specs.Prelude.{ℕ, ℤ, pos, ◌<◌, ◌+ℤ◌, ◌*ℤ◌, ◌<ℤ◌, ◌≡◌, ◌⊎◌, List, [], ◌∷◌, ◌++◌, slice_get, IsSomeAnd, Option, Some, None}
use Rattle.ta_linear.specs.declared.row.System.{System}
use Rattle.ta_cert.specs.declared.line.Node.{Node}
use Rattle.ta_cert.specs.declared.line.Node.TheVariants as node
use Rattle.ta_encode.specs.Code.{SystemAt}
use Rattle.ta_encode.specs.Search.{MayAsk, Pending, Search, parts, bounded_rows}
use Rattle.ta_encode.specs.Asking.{ask_node}
use Rattle.ta_encode.specs.Range.{LeafStays}
use Rattle.ta_encode.specs.declared.ask.Ask.{Ask}
use Rattle.ta_dense.specs.Slack.{slack_tableau}
use Rattle.ta_simplex.specs.LeastIndex.{OverflowsAt}
use Rattle.ta_simplex.specs.Refuted.{IsRefuted}
use Rattle.ta_simplex.specs.Vertex.{IsVertex}
pub use Rattle.ta_simplex.specs.Vertex.{parts_of}
use Rattle.ta_simplex.specs.declared.fraction.Fraction.{Fraction}
use Rattle.ta_walk.specs.declared.end.PlaceKind.{PlaceKind}
use Rattle.ta_walk.specs.declared.end.PlaceKind.TheVariants as kind

-- the schema's system has a fact
pub record OfSystem {E : Type 0} (s : Search E) (w : Pending E) (fact : System → Type 0) : Type 0 where
  pub system : System
  pub is : SystemAt s w system
  pub holds : fact system

-- the least-index rule refutes the schema's system, with these multipliers
abbrev pub RefutedAt : {E : Type 0} → Search E → Pending E → List (ℕ × ℤ) → Type 0
RefutedAt s w ts = OfSystem s w (λ system. IsRefuted system ts)

-- the least-index rule ends at a vertex of the schema's system, with these values
abbrev pub VertexAt : {E : Type 0} → Search E → Pending E → List Fraction → Type 0
VertexAt s w values = OfSystem s w (λ system. IsVertex system values)

-- a fraction is this integer
abbrev pub IsWholeNumber : ℤ → Fraction → Type 0
IsWholeNumber k f = f.top ≡ (k *ℤ f.bottom)

abbrev pub IsWhole : Fraction → Type 0
IsWhole f = (k : ℤ) × IsWholeNumber k f

-- a fraction lies strictly between this integer and the next
pub record IsAbove (floor : ℤ) (f : Fraction) : Type 0 where
  pub above : (floor *ℤ f.bottom) <ℤ f.top
  pub below : f.top <ℤ ((floor +ℤ pos 1) *ℤ f.bottom)

-- the least unknown whose value is not an integer, and the integer below that value
pub record SplitsAt (values : List Fraction) (unknown : ℕ) (floor : ℤ) : Type 0 where
  pub before : (x : ℕ) → x < unknown → IsSomeAnd (slice_get values x) IsWhole
  pub here : IsSomeAnd (slice_get values unknown) (IsAbove floor)

-- these are the values
abbrev pub AreNumbers : List Fraction → List ℤ → Type 0
AreNumbers [] [] = Unit {0}
AreNumbers [] (k ∷ ks) = ⊥
AreNumbers (f ∷ fs) [] = ⊥
AreNumbers (f ∷ fs) (k ∷ ks) = IsWholeNumber k f × AreNumbers fs ks

-- at a vertex with these values the maker asks nothing: if there is a node that it would let ask, that node may not stand there
abbrev pub IsSettled : {E : Type 0} → Search E → Pending E → List Fraction → Type 0
IsSettled s w values = (n : Node) → s.question w.start w.past (parts_of values) ≡ Some n → MayAsk s w.start w.past n → ⊥

-- the maker lets a node ask this at a vertex with these values, and the node may stand there
pub record AsksAt {E : Type 0} (s : Search E) (w : Pending E) (values : List Fraction) (n : Node) : Type 0 where
  pub question : s.question w.start w.past (parts_of values) ≡ Some n
  pub may : MayAsk s w.start w.past n

-- what is asked at a vertex with these values, or that nothing is
abbrev pub IsAsked : {E : Type 0} → Search E → Pending E → List Fraction → Option Ask → Type 0
IsAsked s w values None = IsSettled s w values
IsAsked s w values (Some asked) = AsksAt s w values (ask_node asked)

-- a vertex at which nothing is asked, one of whose values is not an integer, and in place of whose values no integers are taken
pub record SplitVertex {E : Type 0} (s : Search E) (w : Pending E) (unknown : ℕ) (floor : ℤ) : Type 0 where
  pub values : List Fraction
  pub vertex : VertexAt s w values
  pub settled : IsSettled s w values
  pub splits : SplitsAt values unknown floor
  pub unscaled : s.scaled w (parts_of values) ≡ None

-- a vertex at which this node asks
pub record OpenVertex {E : Type 0} (s : Search E) (w : Pending E) (n : Node) : Type 0 where
  pub values : List Fraction
  pub vertex : VertexAt s w values
  pub question : s.question w.start w.past (parts_of values) ≡ Some n
  pub may : MayAsk s w.start w.past n

-- one of the values of a vertex is not an integer, and these integers are taken in place of them
pub record IsScaled {E : Type 0} (s : Search E) (w : Pending E) (values : List Fraction) (numbers : List ℤ) : Type 0 where
  pub unknown : ℕ
  pub floor : ℤ
  pub splits : SplitsAt values unknown floor
  pub scaled : s.scaled w (parts_of values) ≡ Some numbers

-- a whole node: a vertex at which nothing is asked; its values are these integers, or these integers are taken in place of its values
pub record WholeAt {E : Type 0} (s : Search E) (w : Pending E) (numbers : List ℤ) : Type 0 where
  pub values : List Fraction
  pub vertex : VertexAt s w values
  pub settled : IsSettled s w values
  pub whole : AreNumbers values numbers ⊎ IsScaled s w values numbers

-- a leaf whose check stays in range
pub record LeafAt {E : Type 0} (s : Search E) (w : Pending E) (ts : List (ℕ × ℤ)) : Type 0 where
  pub refuted : RefutedAt s w ts
  pub in_range : LeafStays (bounded_rows s w) ts

-- which node stands at a schema that is not a whole node and whose numbers stay in range: a leaf if the system is refuted; if it has a
-- vertex, the node that asks there, if any, otherwise a Split of the least unknown that is not an integer, at its floor
abbrev pub NodeAt : {E : Type 0} → Search E → Pending E → Node → Type 0
NodeAt s w (node.Leaf ts) = LeafAt s w ts
NodeAt s w (node.Split unknown floor) = SplitVertex s w unknown floor
NodeAt s w n = OpenVertex s w n

-- multipliers refute the schema's system, and their check leaves the range
pub record LeafOutOfRange {E : Type 0} (s : Search E) (w : Pending E) : Type 0 where
  pub multipliers : List (ℕ × ℤ)
  pub refuted : RefutedAt s w multipliers
  pub leaves : LeafStays (bounded_rows s w) multipliers → ⊥

-- where a number of a node leaves the range. A walk makes no run, so it never names the replay of one
abbrev pub IsOutOfRangeAt : {E : Type 0} → Search E → Pending E → PlaceKind → Type 0
IsOutOfRangeAt s w (kind.Pivot count) = OfSystem s w (λ system. OverflowsAt (slack_tableau system) count)
IsOutOfRangeAt s w kind.Leaf = LeafOutOfRange s w
IsOutOfRangeAt s w kind.Run = ⊥

-- the visit: each node stands at the first schema that is left, and what it leaves of the schema takes its place; from these schemas it
-- leads to those
abbrev pub Visits : {E : Type 0} → Search E → List (Pending E) → List Node → List (Pending E) → Type 0
Visits s ws [] rest = rest ≡ ws
Visits s [] (n ∷ ns) rest = ⊥
Visits s (w ∷ ws) (n ∷ ns) rest = NodeAt s w n × Visits s (parts s w n ++ ws) ns rest
