use Rattle.ta_revised.proofs.Common.{◌≡◌, ◌∙◌, ap, sym, gcd_with, arc_value}
use Rattle.ta_revised.proofs.RowCellFacts.{gcd_behind}
use Rattle.ta_revised.proofs.row_cells.RowCells.divisor.Goals as goal

pub returns : goal.returns
returns c =
    let xs = (arc_value c.self.inside.stored).items in
    let read : c.deref-2.result.now ≡ (arc_value c.self.inside.stored).items = c.deref-2.ensures.value ∙ ap (λ (v : _). v.items) c.deref.ensures in
    c.gcd_of_narrow.ensures ∙ ap (gcd_with c.args.start) read ∙ sym (gcd_behind c.args.start c.self.inside.count xs)
    ∙ ap (gcd_with c.args.start) c.self.view_is
