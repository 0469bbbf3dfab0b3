-- What a list holds when the borrow of one of its items (a returned `&mut`) ends.
use Rattle.std.specs.Prelude.{ℕ, List, slice_set}
use Rattle.std.specs.Borrow.{Lends, Fml, MutBor, RattleType}
use Rattle.ta_base.specs.contracts.list.List.{the_row}

-- once the borrow ends, the item of this number is what was last written to it
module _ (T : RattleType) (items : MutBor (List T.Denot)) (index : ℕ) where
  abbrev pub lends_item : MutBor T.Denot → Fml
  lends_item item = Lends (the_row T) T items item (slice_set items.now index)
