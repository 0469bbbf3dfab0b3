use Rattle.ta_links.proofs.Common.{◌∙◌, ap, arith, List, Cell, value_in}
use Rattle.ta_links.proofs.ExtendedRows.{outside_rows}
use Rattle.ta_links.proofs.extending.begun_cells.Goals as goal

pub write_rows-requires-clause-empty : goal.write_rows-requires-clause-empty
write_rows-requires-clause-empty c i j low =
    let l = c.args.links.now in
    ap (λ (xs : List Cell). value_in xs i j) c.in_ok-all.ensures.cells
    ∙ outside_rows l.cells.items l.row_heads.items l.column_heads.items l.free_head i j c.requires.sound (omega arith)
