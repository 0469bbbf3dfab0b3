-- What a cursor stands for: the schemas that are still to be refuted.
use Rattle.std.specs.Prelude.{ℕ, ◌+◌, ◌≤◌, ◌≡◌, Bool, true, false, List, [], ◌∷◌, ◌++◌, length, take, drop, reverse, slice_get, Option, Some, None, Result, Ok}
use Rattle.std.specs.Prelude.{Err}
use Rattle.std.specs.declared.alloc.AllocError.{AllocError}
use Rattle.ta_encode.specs.Lines.{BoundWithin, BoundsWithin}
use Rattle.ta_encode.specs.declared.meaning.Bound.{Bound}
use Rattle.ta_encode.specs.declared.meaning.Side.TheVariants.{High}
use Rattle.ta_encode.specs.Search.{Pending, Search, Comes, bound_at, parts}
use Rattle.ta_encode.specs.Asking.{node_of}
use Rattle.ta_encode.specs.declared.ask.Inner.{Inner}
use Rattle.ta_encode.specs.declared.ask.Inner.TheVariants.{Asks, Splits}
use Rattle.ta_encode.specs.declared.cursor.Frame.{Frame}
use Rattle.ta_encode.specs.declared.cursor.Cursor.{Cursor}

-- a node of a start with these facts, in order, and bounds
abbrev pub node_at : {E : Type 0} → ℕ → List E → List Bound → Pending E
node_at start facts bounds = record { start = start; past = reverse facts; bounds = bounds }

-- the node that comes next
abbrev pub here : {E : Type 0} → Cursor E → Pending E
here c = node_at c.start c.facts.items c.bounds.items

-- an open node
abbrev pub open_node : {E : Type 0} → Cursor E → Frame → Pending E
open_node c f = node_at c.start (take f.length c.facts.items) (take f.bounds c.bounds.items)

-- what an open node leaves after the child that is being read
abbrev pub behind : {E : Type 0} → Search E → Cursor E → Frame → List (Pending E)
behind s c f = drop (f.next + 1) (parts s (open_node c f) (node_of f.inner))

-- what open nodes, the innermost first, leave after the child that is being read
abbrev pub all_behind : {E : Type 0} → Search E → Cursor E → List Frame → List (Pending E)
all_behind s c [] = []
all_behind s c (f ∷ fs) = behind s c f ++ all_behind s c fs

-- a schema to which the search comes, with bounds over its unknowns
pub record IsWord {E : Type 0} (s : Search E) (w : Pending E) : Type 0 where
  pub comes : Comes s w.start w.past
  pub bounds : BoundsWithin (s.unknowns w.start w.past) w.bounds

-- a split is at an unknown of the schema, and its floor is one that a bound may have
abbrev pub SplitFits : ℕ → Inner → Type 0
SplitFits unknowns (Asks asked) = Unit {0}
SplitFits unknowns (Splits unknown floor) = BoundWithin unknowns (bound_at unknown floor High)

-- the schema of an open node and its split
pub record FrameFits {E : Type 0} (s : Search E) (w : Pending E) (f : Frame) : Type 0 where
  pub word : IsWord s w
  pub split : SplitFits (s.unknowns w.start w.past) f.inner

-- open nodes, the innermost first. Each stands at a beginning of the schema and of the bounds of the node inside it, and its child that is
-- being read is where the node inside it stands; for the innermost node, where the cursor is
abbrev pub FramesFit : {E : Type 0} → Search E → Cursor E → Pending E → ℕ → ℕ → List Frame → Type 0
FramesFit s c w elements bounds [] = Unit {0}
FramesFit s c w elements bounds (f ∷ fs) =
    (f.length ≤ elements)
    × (f.bounds ≤ bounds)
    × FrameFits s (open_node c f) f
    × (slice_get (parts s (open_node c f) (node_of f.inner)) f.next ≡ Some w)
    × FramesFit s c (open_node c f) f.length f.bounds fs

-- within a tree of a search, where these schemas come after the child that is being read
pub record Inside {E : Type 0} (s : Search E) (c : Cursor E) (words : List (Pending E)) : Type 0 where
  pub frames : FramesFit s c (here c) (length c.facts.items) (length c.bounds.items) (reverse c.frames.items)
  pub left : words ≡ all_behind s c (reverse c.frames.items)

-- before the node that stands at the first of these schemas
pub record Within {E : Type 0} (s : Search E) (c : Cursor E) (pending : List (Pending E)) : Type 0 where
  pub words : List (Pending E)
  pub inside : Inside s c words
  pub word : IsWord s (here c)
  pub left : pending ≡ here c ∷ words

-- at a schema, with no node open
pub record IsAtRoot {E : Type 0} (c : Cursor E) (w : Pending E) : Type 0 where
  pub here : here c ≡ w
  pub frames : c.frames.items ≡ []

-- at a schema with which a search begins, without bounds, that schema is left
abbrev pub BeginsWithin : Type 0 → Type 0
BeginsWithin E =
    (s : Search E) (c : Cursor E) (number start : ℕ) → slice_get s.roots number ≡ Some (node_at start [] [])
    → IsAtRoot c (node_at start [] []) → Within s c (node_at start [] [] ∷ [])

abbrev pub IsInside : {E : Type 0} → Search E → Cursor E → Type 0
IsInside {E} s c = (words : List (Pending E)) × Inside s c words

abbrev pub IsWithin : {E : Type 0} → Search E → Cursor E → Type 0
IsWithin {E} s c = (pending : List (Pending E)) × Within s c pending

-- where a cursor is that went on to these schemas, and whether there are any; nothing is said if memory ran out
abbrev pub GoesOn : {E : Type 0} → Search E → Cursor E → List (Pending E) → Result Bool AllocError → Type 0
GoesOn s new [] (Ok more) = more ≡ false
GoesOn s new (w ∷ ws) (Ok more) = (more ≡ true) × Within s new (w ∷ ws)
GoesOn s new words (Err e) = Unit {0}

-- the same if there are any
abbrev pub WentOn : {E : Type 0} → Search E → Cursor E → List (Pending E) → Result (Unit {0}) AllocError → Type 0
WentOn s new words (Ok _) = Within s new words
WentOn s new words (Err e) = Unit {0}

-- the schemas that are still to be refuted: the cursor's, and then those that its open nodes leave
abbrev pub left_at : {E : Type 0} → Search E → Cursor E → List (Pending E)
left_at s c = here c ∷ all_behind s c (reverse c.frames.items)

-- a cursor gave the last of its schemas to another cursor: first come those that it kept, then the other's. This many nodes are open
-- outside the outermost node that leaves a schema. They leave none, and the other's schemas are those that they and that node leave
pub record IsShared {E : Type 0} (s : Search E) (old new later : Cursor E) : Type 0 where
  pub outer : ℕ
  pub farther : all_behind s old (reverse (take outer old.frames.items)) ≡ []
  pub given : left_at s later ≡ all_behind s old (reverse (take (outer + 1) old.frames.items))
  pub words : left_at s old ≡ left_at s new ++ left_at s later
  pub first : Within s new (left_at s new)
  pub second : Within s later (left_at s later)

-- a cursor had none to give: it is unchanged, and only the schema at which it stands is left
pub record IsUnshared {E : Type 0} (s : Search E) (old new : Cursor E) : Type 0 where
  pub kept : new ≡ old
  pub alone : left_at s old ≡ here old ∷ []

-- whether it gave some; otherwise it is unchanged, and no schema is left after its own
abbrev pub Shares : {E : Type 0} → Search E → Cursor E → Cursor E → Option (Cursor E) → Type 0
Shares s old new None = IsUnshared s old new
Shares s old new (Some later) = IsShared s old new later

-- a cursor at the first of these schemas
pub record IsBeforeWords {E : Type 0} (s : Search E) (pending : List (Pending E)) (c : Cursor E) : Type 0 where
  pub words : left_at s c ≡ pending
  pub within : Within s c (left_at s c)
