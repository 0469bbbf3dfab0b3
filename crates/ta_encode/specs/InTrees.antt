-- What a place in the trees of a search stands for: the schemas that are still to be refuted, tree by tree.
use Rattle.std.specs.Prelude.{◌+◌, ◌^◌, ◌<◌, ◌≡◌, Bool, true, false, List, [], ◌∷◌, ◌++◌, drop, Option, Some, None, Result, Ok, Err}
use Rattle.std.specs.declared.alloc.AllocError.{AllocError}
use Rattle.ta_encode.specs.Search.{Pending, Search}
use Rattle.ta_encode.specs.Cursors.{Within, here}
use Rattle.ta_encode.specs.declared.cursor_place.Place.{Place}

-- the schema at which the next node stands
abbrev pub here_at : {E : Type 0} → Place E → Pending E
here_at t = here t.cursor

-- before the node that stands at the first of these schemas: those of the tree that is being read, and then those with which the search
-- begins the later trees
pub record AllWithin {E : Type 0} (s : Search E) (t : Place E) (pending : List (Pending E)) : Type 0 where
  pub words : List (Pending E)
  pub within : Within s t.cursor words
  pub left : pending ≡ words ++ drop (t.root + 1) s.roots
  pub small : t.root < 2 ^ 31

abbrev pub IsAllWithin : {E : Type 0} → Search E → Place E → Type 0
IsAllWithin {E} s t = (pending : List (Pending E)) × AllWithin s t pending

-- where a place is that went on to these schemas, and whether there are any; nothing is said if memory ran out
abbrev pub AllGoOn : {E : Type 0} → Search E → Place E → List (Pending E) → Result Bool AllocError → Type 0
AllGoOn s new [] (Ok more) = more ≡ false
AllGoOn s new (w ∷ ws) (Ok more) = (more ≡ true) × AllWithin s new (w ∷ ws)
AllGoOn s new words (Err e) = Unit {0}

-- the first place, where there is one
abbrev pub BeginsAll : {E : Type 0} → Search E → Option (Place E) → Type 0
BeginsAll s None = s.roots ≡ []
BeginsAll s (Some place) = AllWithin s place s.roots
