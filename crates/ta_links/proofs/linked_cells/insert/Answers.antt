use Rattle.ta_links.proofs.Common.{◌≡◌, ◌≤◌, ◌∙◌, ap, sym, List, ℕ, length, Option, Some, arith, to_z-of_z, some_below, Cell, Rows, along_rows, along_columns}
use Rattle.ta_links.proofs.Common.{following, next_free}
use Rattle.ta_links.proofs.Splicing.{spliced_long}
use Rattle.ta_links.proofs.Inserting.{Put, put_from, free_in, taken_longer, right_in, below_in}
use Rattle.ta_links.proofs.linked_cells.insert.Goals as goal
use Rattle.ta_links.proofs.linked_cells.insert.Goals.{In_ok-at}

-- a cell is put into its two gaps
put : (c : In_ok-at) → (let l = c.args.links.now in Put l.cells.items l.row_heads.items l.column_heads.items l.free_head c.args.left c.args.above c.args.row
    c.args.column c.args.value)
put c = record {
  linked = c.requires.sound;
  row_inside = c.requires.row;
  column_inside = c.requires.column;
  left_gap = c.requires.left;
  above_gap = c.requires.above;
  not_zero = c.requires.value;
  in_range = c.requires.fits;
}

-- the cells behind the gaps
right : (c : In_ok-at) → c.cell_behind-right.result ≡ following along_rows c.args.links.now.cells.items c.args.links.now.row_heads.items c.args.row c.args.left
right c =
    c.cell_behind-right.ensures ∙ ap (λ (xs : List Cell). following along_rows xs c.deref-2.result.now c.args.row c.args.left) c.deref.ensures.value
    ∙ ap (λ (hs : List (Option ℕ)). following along_rows c.args.links.now.cells.items hs c.args.row c.args.left) c.deref-2.ensures.value

below : (c : In_ok-at) → c.cell_behind-below.result ≡ following along_columns c.args.links.now.cells.items c.args.links.now.column_heads.items c.args.column
    c.args.above
below c =
    c.cell_behind-below.ensures ∙ ap (λ (xs : List Cell). following along_columns xs c.deref-4.result.now c.args.column c.args.above) c.deref-3.ensures.value
    ∙ ap (λ (hs : List (Option ℕ)). following along_columns c.args.links.now.cells.items hs c.args.column c.args.above) c.deref-4.ensures.value

-- no cell is lost where one is taken
longer : (c : In_ok-at) → length c.args.links.now.cells.items ≤ length c.take_cell.new.cells.items
longer c = taken_longer c.args.links.now.cells.items c.args.links.now.free_head _ c.take_cell.new.cells.items c.requires.sound.free c.in_ok-at.ensures.cells

pub take_cell-requires : goal.take_cell-requires
take_cell-requires c =
    let l = c.args.links.now in
    some_below l.free_head (length l.cells.items) (free_in l.cells.items l.free_head c.requires.sound.free)

pub splice-requires-clause-after : goal.splice-requires-clause-after
splice-requires-clause-after c =
    let at = (goal.at.splice-requires-clause-after c).In_ok-at in
    let more = longer at in
    some_below c.cell_behind-right.result (length c.take_cell.new.cells.items) (λ j h. let b = right_in (put at) j (sym (right at) ∙ h) in omega arith)

pub splice-requires-2-clause-after : goal.splice-requires-2-clause-after
splice-requires-2-clause-after c =
    let at = (goal.at.splice-requires-2-clause-after c).In_ok-at in
    let more = longer at in
    let long : length c.splice.new.cells.items ≡ length c.take_cell.new.cells.items = ap (λ (xs : List Cell). length xs) c.splice.ensures
    ∙ spliced_long Rows c.take_cell.new.cells.items c.args.left c.cell_behind-right.result (Some c.in_ok-at.at) (Some c.in_ok-at.at) in
    some_below c.cell_behind-below.result (length c.splice.new.cells.items) (λ j h. let b = below_in (put at) j (sym (below at) ∙ h) in omega arith)

pub returns : goal.returns
returns c =
    let l = c.args.links.now in
    let f = c.ranges.value in
    let at = (goal.at.returns c).In_ok-at in
    let done = put_from l.cells.items l.row_heads.items l.column_heads.items l.free_head c.args.left c.args.above c.args.row c.args.column c.args.value (put at)
    c.cell_behind-right.result c.cell_behind-below.result c.in_ok-at.at
    c.take_cell.new.cells.items c.splice.new.cells.items c.splice-2.new.cells.items c.link_head.new.heads.items c.link_head-2.new.heads.items
    c.take_cell.new.free_head (right at) (below at) c.in_ok-at.ensures.at
    (simp to_z-of_z at c.in_ok-at.ensures.cells) c.splice.ensures c.splice-2.ensures c.link_head.ensures c.link_head-2.ensures c.in_ok-at.ensures.head in
    record {
      sound = done.linked;
      rows = done.rows_long;
      columns = done.columns_long;
      values = done.values;
      kept = done.kept;
      fresh = λ e. c.in_ok-at.ensures.head ∙ ap (next_free l.cells.items) e;
      held = done.little;
    }
