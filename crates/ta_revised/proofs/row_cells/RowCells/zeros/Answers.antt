use Rattle.ta_revised.proofs.Common.{◌∙◌, ap, arith, zeros_behind}
use Rattle.ta_revised.proofs.RowCellFacts.{zeros_alone}
use Rattle.ta_revised.proofs.row_cells.RowCells.zeros.Goals as goal

pub returns : goal.returns
returns c =
    let cells = c.in_ok-cells.ensures.items_if_clones_equal (λ y e. e) in
    ap (λ (v : _). zeros_behind v.items c.args.columns) c.in_ok-stored.ensures.ok ∙ ap (λ (xs : _). zeros_behind xs c.args.columns) cells
    ∙ zeros_alone c.min.result c.args.columns (omega arith)
