-- What the fields of a linked dictionary mean, and what they keep.
use Rattle.std.specs.Prelude.{◌<◌, ◌^◌, ◌≡◌, length}
use Rattle.ta_links.specs.declared.linked.LinkedDictionary.TheInside.{Inside}
use Rattle.ta_links.specs.Linked.{Linked, table_rows, AreProperHeads}
use Rattle.ta_links.specs.Gaps.{AreSound}

-- what the fields of a dictionary mean
abbrev pub linked_of : Inside → Linked
linked_of d = record {
  tableau = record { non_basic = d.non_basic.items; rows = table_rows d.links.cells.items (length d.non_basic.items) 0 d.rows.items };
  cells = d.links.cells.items;
  row_heads = d.links.row_heads.items;
  column_heads = d.links.column_heads.items;
  free_head = d.links.free_head;
}

-- what they keep
pub record IsSoundLinks (d : Inside) : Type 0 where
  pub linked : AreSound d.links
  pub rows_long : length d.links.row_heads.items ≡ length d.rows.items
  pub columns_long : length d.links.column_heads.items ≡ length d.non_basic.items
  pub rows_fit : length d.rows.items < 2 ^ 32
  pub columns_fit : length d.non_basic.items < 2 ^ 32
  pub proper : AreProperHeads d.rows.items
