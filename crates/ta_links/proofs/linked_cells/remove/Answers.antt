use Rattle.ta_links.proofs.Common.{◌≡◌, ◌∙◌, ap, sym, List, length, arith, some_below, Cell, cell_at, along_rows, along_columns, Rows}
use Rattle.ta_links.proofs.Splicing.{spliced_long}
use Rattle.ta_links.proofs.Removing.{cut_from, before_in, after_in}
use Rattle.ta_links.proofs.linked_cells.remove.Goals as goal
use Rattle.ta_links.proofs.linked_cells.remove.Goals.{After-cell_of-cell}

-- the cell that is read
read : (c : After-cell_of-cell) → c.cell_of-cell.result ≡ cell_at c.args.links.now.cells.items c.args.at
read c = c.cell_of-cell.ensures ∙ ap (λ (xs : List Cell). cell_at xs c.args.at) c.deref.ensures.value

pub splice-requires-clause-before : goal.splice-requires-clause-before
splice-requires-clause-before c =
    let l = c.args.links.now in
    some_below c.cell_of-cell.result.left (length l.cells.items)
    (λ j h. before_in along_rows l.cells.items l.row_heads.items c.args.at c.requires.sound.rows c.requires.live j
    (ap (λ (c : Cell). c.left) (sym (read (goal.at.splice-requires-clause-before c).After-cell_of-cell)) ∙ h))

pub splice-requires-clause-after : goal.splice-requires-clause-after
splice-requires-clause-after c =
    let l = c.args.links.now in
    some_below c.cell_of-cell.result.right (length l.cells.items)
    (λ j h. after_in along_rows l.cells.items l.row_heads.items c.args.at c.requires.sound.rows c.requires.live j
    (ap (λ (c : Cell). c.right) (sym (read (goal.at.splice-requires-clause-after c).After-cell_of-cell)) ∙ h))

pub splice-requires-2-clause-before : goal.splice-requires-2-clause-before
splice-requires-2-clause-before c =
    let l = c.args.links.now in
    some_below c.cell_of-cell.result.above (length c.splice.new.cells.items) (λ j h.
    let b = before_in along_columns l.cells.items l.column_heads.items c.args.at c.requires.sound.columns c.requires.live j
    (ap (λ (c : Cell). c.above) (sym (read (goal.at.splice-requires-2-clause-before c).After-cell_of-cell)) ∙ h) in
    let long = ap (λ (xs : List Cell). length xs) c.splice.ensures
    ∙ spliced_long Rows l.cells.items c.cell_of-cell.result.left c.cell_of-cell.result.right c.cell_of-cell.result.right c.cell_of-cell.result.left in
    omega arith)

pub splice-requires-2-clause-after : goal.splice-requires-2-clause-after
splice-requires-2-clause-after c =
    let l = c.args.links.now in
    some_below c.cell_of-cell.result.below (length c.splice.new.cells.items) (λ j h.
    let b = after_in along_columns l.cells.items l.column_heads.items c.args.at c.requires.sound.columns c.requires.live j
    (ap (λ (c : Cell). c.below) (sym (read (goal.at.splice-requires-2-clause-after c).After-cell_of-cell)) ∙ h) in
    let long = ap (λ (xs : List Cell). length xs) c.splice.ensures
    ∙ spliced_long Rows l.cells.items c.cell_of-cell.result.left c.cell_of-cell.result.right c.cell_of-cell.result.right c.cell_of-cell.result.left in
    omega arith)

pub returns : goal.returns
returns c =
    let l = c.args.links.now in
    let done = cut_from l.cells.items l.row_heads.items l.column_heads.items l.free_head c.args.at c.requires.sound c.requires.live c.cell_of-cell.result
    c.splice.new.cells.items c.splice-2.new.cells.items c.free_cell.new.cells.items c.link_head.new.heads.items c.link_head-2.new.heads.items
    c.free_cell.new.free_head
    (read (goal.at.returns c).After-cell_of-cell) c.splice.ensures c.splice-2.ensures c.free_cell.ensures.cells c.link_head.ensures c.link_head-2.ensures
    c.free_cell.ensures.head in
    record {
      sound = done.linked;
      rows = done.rows_long;
      columns = done.columns_long;
      values = done.values;
      kept = done.kept;
      held = done.long;
    }
