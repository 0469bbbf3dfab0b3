-- Parts of a visit that are done in parallel: the schemas of a list, each with its tree.
use Rattle.std.specs.Prelude.{ℕ, ◌+◌, ◌-◌, ◌≤◌, ◌<◌, ◌≡◌, List, [], ◌++◌, length, nat_lt, if◌then◌else◌}
use Rattle.std.specs.List.{AllByRecursion}
use Rattle.ta_base.specs.declared.limits.TheConstants.{MOST_NODES}
use Rattle.ta_cert.specs.declared.line.Node.{Node}
use Rattle.ta_encode.specs.Search.{Comes, Pending, Search}
use Rattle.ta_encode.specs.Cursors.{Within, left_at, node_at}
use Rattle.ta_encode.specs.declared.cursor.Cursor.{Cursor}
use Rattle.ta_walk.specs.Visit.{Visits}
use Rattle.ta_walk.specs.Ends.{IsSpent, IsTreeEnd, leaf_count, node_count}
use Rattle.ta_walk.specs.declared.end.TreeEnd.{TreeEnd}
use Rattle.ta_walk.specs.declared.end.TreeEnd.TheVariants as tree
use Rattle.ta_walk.specs.declared.visiting.Stretch.{Stretch}
use Rattle.ta_walk.specs.declared.visiting.Stretch.TheVariants as stretch

-- the node with which the tree of a start begins
abbrev pub root_node : {E : Type 0} → ℕ → Pending E
root_node start = node_at start [] []

-- the search comes to it
abbrev pub ComesTo : {E : Type 0} → Search E → ℕ → Type 0
ComesTo s start = Comes s start []

-- the search that begins with these schemas instead
abbrev pub beginning : {E : Type 0} → Search E → List (Pending E) → Search E
beginning s words = record { roots = words; answers = s.answers; question = s.question; scaled = s.scaled; unknowns = s.unknowns; rows = s.rows }

-- a part of a visit ended so within its budget. If it stopped early, a schema is left after this many nodes, which may be fewer than the
-- budget
abbrev pub PartEnds : {E : Type 0} → Search E → ℕ → (List Node → Type 0) → TreeEnd E → Type 0
PartEnds s budget Keeps (tree.Refuted count leaves) = IsTreeEnd s budget Keeps (tree.Refuted count leaves)
PartEnds s budget Keeps (tree.Found count start facts values) = IsTreeEnd s budget Keeps (tree.Found count start facts values)
PartEnds s budget Keeps (tree.Spent count) = IsSpent s count count
PartEnds s budget Keeps (tree.Overflow node kind) = IsTreeEnd s budget Keeps (tree.Overflow node kind)

-- and its nodes were handed to a keeper, after those that it took before
abbrev pub PartVisited : {K E : Type 0} → (K → K → List Node → Type 0) → Search E → ℕ → K → K → TreeEnd E → Type 0
PartVisited {K} Keeps s budget begun kept end = (first : K) (before : List Node) → Keeps first begun before
    → PartEnds s budget (λ nodes. Keeps first kept (before ++ nodes)) end

-- the same end, for a visit with this many more nodes before, this many of them leaves
abbrev pub shifted : {E : Type 0} → ℕ → ℕ → TreeEnd E → TreeEnd E
shifted count leaves (tree.Refuted more others) = tree.Refuted (count + more) (leaves + others)
shifted count leaves (tree.Found more start facts values) = tree.Found (count + more) start facts values
shifted count leaves (tree.Spent more) = tree.Spent (count + more)
shifted count leaves (tree.Overflow more kind) = tree.Overflow (count + more) kind

-- a visit came to some schemas after this many nodes and leaves. If the part of these schemas ended so, the whole visit ended so: the
-- numbers are added, and the budget is exhausted if they exceed it
abbrev pub behind : {E : Type 0} → ℕ → ℕ → ℕ → TreeEnd E → TreeEnd E
behind budget count leaves end = if nat_lt (budget - count) (node_count end) then tree.Spent budget else shifted count leaves end

-- no more leaves than nodes, and no more nodes than the budget
abbrev pub IsSmallEnd : {E : Type 0} → ℕ → TreeEnd E → Type 0
IsSmallEnd budget (tree.Refuted count leaves) = (leaves ≤ count) × (count ≤ budget)
IsSmallEnd budget (tree.Found count start facts values) = Unit {0}
IsSmallEnd budget (tree.Spent count) = count ≤ budget
IsSmallEnd budget (tree.Overflow node kind) = Unit {0}

-- an end of a part that did not stop before its budget was exhausted
abbrev pub IsWholeEnd : {E : Type 0} → ℕ → TreeEnd E → Type 0
IsWholeEnd budget (tree.Refuted count leaves) = Unit {0}
IsWholeEnd budget (tree.Found count start facts values) = Unit {0}
IsWholeEnd budget (tree.Spent count) = count ≡ budget
IsWholeEnd budget (tree.Overflow node kind) = Unit {0}

-- an end that decides
abbrev pub IsNotRefuted : {E : Type 0} → TreeEnd E → Type 0
IsNotRefuted (tree.Refuted count leaves) = ⊥
IsNotRefuted (tree.Found count start facts values) = Unit {0}
IsNotRefuted (tree.Spent count) = Unit {0}
IsNotRefuted (tree.Overflow node kind) = Unit {0}

-- a schema with at most this many bounds
abbrev pub HasFewBounds : {E : Type 0} → ℕ → Pending E → Type 0
HasFewBounds most w = length w.bounds ≤ most

-- a cursor is before the first of the schemas that it leaves; these have so few bounds that this many nodes may follow
pub record HasFewLeft {E : Type 0} (s : Search E) (nodes : ℕ) (c : Cursor E) : Type 0 where
  pub within : Within s c (left_at s c)
  pub most : ℕ
  pub room : most + nodes ≤ MOST_NODES
  pub few : AllByRecursion (HasFewBounds most) (left_at s c)

-- after some nodes, this many of them leaves, the schemas are those of one cursor, and then those of another
pub record LeadsToBoth {E : Type 0} (s : Search E) (words : List (Pending E)) (Keeps : List Node → Type 0) (first later : Cursor E) (count leaves : ℕ) : Type 0
  where
    pub nodes : List Node
    pub visits : Visits s words nodes (left_at s first ++ left_at s later)
    pub counted : count ≡ length nodes
    pub leaves_are : leaves ≡ leaf_count nodes
    pub kept : Keeps nodes

-- the result of a stretch of a visit, whose cursor is this one now
abbrev pub StretchEnds : {E : Type 0} → Search E → List (Pending E) → ℕ → Cursor E → (List Node → Type 0) → Stretch E → Type 0
StretchEnds s words budget first Keeps (stretch.Ended end) = PartEnds (beginning s words) budget Keeps end
StretchEnds s words budget first Keeps (stretch.Shared count leaves later) = LeadsToBoth s words Keeps first later count leaves

-- a stretch visited some nodes, and each of two cursors may use the budget that is left
pub record SharesBudget {E : Type 0} (s : Search E) (budget count leaves : ℕ) (first later : Cursor E) : Type 0 where
  pub some : 0 < count
  pub within : count ≤ budget
  pub leaves_few : leaves ≤ count
  pub here : HasFewLeft s (budget - count) first
  pub there : HasFewLeft s (budget - count) later

abbrev pub IsSmallStretch : {E : Type 0} → Search E → ℕ → Cursor E → Stretch E → Type 0
IsSmallStretch s budget first (stretch.Ended end) = IsSmallEnd budget end
IsSmallStretch s budget first (stretch.Shared count leaves later) = SharesBudget s budget count leaves first later

abbrev pub IsWholeStretch : {E : Type 0} → ℕ → Stretch E → Type 0
IsWholeStretch budget (stretch.Ended end) = IsWholeEnd budget end
IsWholeStretch budget (stretch.Shared count leaves later) = Unit {0}

-- a fact that holds if the schemas were shared
abbrev pub OnShared : {E : Type 0} → Type 0 → Stretch E → Type 0
OnShared fact (stretch.Ended end) = Unit {0}
OnShared fact (stretch.Shared count leaves later) = fact

-- a keeper of a later part, which has no node so far
abbrev pub IsLaterKeeper : {K : Type 0} → (K → K → Type 0) → (K → K → List Node → Type 0) → K → K → Type 0
IsLaterKeeper {K} begins Keeps begun late = ((first : K) (before : List Node) → Keeps first begun before → begins first late) × Keeps late late []
