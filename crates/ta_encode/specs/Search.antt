-- A search: what is refuted node by node, over facts of any type. For schemas, the facts are their elements.
use Rattle.std.specs.Prelude.{ℕ, ℤ, ◌≡◌, ◌⊎◌, List, [], ◌∷◌, ◌++◌, length, map, Bool, cond, Option, Some, None}
use Rattle.std.specs.Option.{IsSome}
use Rattle.ta_base.specs.Masks.{In}
use Rattle.ta_cert.specs.declared.line.Node.{Node}
use Rattle.ta_cert.specs.declared.line.Node.TheVariants as node
use Rattle.ta_encode.specs.System.{LinearRow, Bound, Side, Low, High, AllHold, bound_row}

-- what is to be refuted: a start, the facts that were added, the newest first, and bounds. For schemas, the start is a start set
pub record Pending (E : Type 0) : Type 0 where
  pub start : ℕ
  pub past : List E
  pub bounds : List Bound

-- the same with one more fact
abbrev pub longer : {E : Type 0} → Pending E → E → Pending E
longer w e = record { start = w.start; past = e ∷ w.past; bounds = w.bounds }

-- the same with one more bound
abbrev pub bounded : {E : Type 0} → Pending E → Bound → Pending E
bounded w b = record { start = w.start; past = w.past; bounds = w.bounds ++ b ∷ [] }

-- one side of a split
abbrev pub bound_at : ℕ → ℤ → Side → Bound
bound_at unknown floor side = record { unknown = unknown; floor = floor; side = side }

-- a search: its starts; the facts of which a node that asks adds one, in order, where it may stand; the node that a maker lets ask at a
-- vertex, by the numerators and denominators of its values; the integer values that a maker takes in place of a vertex's values, where it
-- asks nothing and these are not all integers; how many unknowns a system has, and its rows, without those of bounds. Each is a function of
-- a start and a past
pub record Search (E : Type 0) : Type 0 where
  pub roots : List (Pending E)
  pub answers : ℕ → List E → Node → Option (List E)
  pub question : ℕ → List E → List (ℤ × ℤ) → Option Node
  pub scaled : Pending E → List (ℤ × ℤ) → Option (List ℤ)
  pub unknowns : ℕ → List E → ℕ
  pub rows : ℕ → List E → List LinearRow

-- the rows of a system, with those of its bounds
abbrev pub bounded_rows : {E : Type 0} → Search E → Pending E → List LinearRow
bounded_rows s w = s.rows w.start w.past ++ map bound_row w.bounds

-- a solution: one natural value for each unknown, at which each row holds
pub record SolvesAt {E : Type 0} (s : Search E) (w : Pending E) (vs : List ℕ) : Type 0 where
  pub count : length vs ≡ s.unknowns w.start w.past
  pub rows_hold : AllHold vs (bounded_rows s w)

-- the answers of a node that asks, where it may stand: a leaf and a split ask nothing
abbrev pub asked : {E : Type 0} → Search E → ℕ → List E → Node → Option (List E)
asked s start past (node.Leaf ts) = None
asked s start past (node.Split unknown floor) = None
asked s start past n = s.answers start past n

-- whether a node that asks may stand there
abbrev pub MayAsk : {E : Type 0} → Search E → ℕ → List E → Node → Type 0
MayAsk s start past n = IsSome (asked s start past n)

-- the items, none where there is no list
abbrev pub all_or_none : {E : Type 0} → Option (List E) → List E
all_or_none None = []
all_or_none (Some es) = es

-- the facts of which a node adds one, in order
abbrev pub answered : {E : Type 0} → Search E → ℕ → List E → Node → List E
answered s start past n = all_or_none (asked s start past n)

-- what a node leaves to be refuted of that at which it stands
abbrev pub parts : {E : Type 0} → Search E → Pending E → Node → List (Pending E)
parts s w (node.Leaf ts) = []
parts s w (node.Split unknown floor) = bounded w (bound_at unknown floor Low) ∷ bounded w (bound_at unknown floor High) ∷ []
parts s w n = map (longer w) (answered s w.start w.past n)

-- a search begins there
abbrev pub BeginsAtWord : {E : Type 0} → Search E → ℕ → List E → Type 0
BeginsAtWord {E} s start past = (w : Pending E) × In w s.roots × (w.start ≡ start) × (w.past ≡ past)

-- a fact answers a node that may ask
abbrev pub Answers : {E : Type 0} → Search E → ℕ → List E → E → Type 0
Answers s start past e = (n : Node) × In e (answered s start past n)

-- the search comes there: it begins there, or the newest fact answers a node
abbrev pub Comes : {E : Type 0} → Search E → ℕ → List E → Type 0
Comes s start [] = BeginsAtWord s start []
Comes s start (e ∷ past) = BeginsAtWord s start (e ∷ past) ⊎ (Answers s start past e × Comes s start past)

-- a test of the multipliers of a leaf
abbrev pub LeafTest : Type 0 → Type 1
LeafTest E = Pending E → List (ℕ × ℤ) → Type 0

-- the answers of a search of which only Extend asks, where it is not complete
abbrev pub only_extend : {E : Type 0} → Bool → List E → Node → Option (List E)
only_extend complete es node.Extend = cond complete None (Some es)
only_extend complete es n = None
