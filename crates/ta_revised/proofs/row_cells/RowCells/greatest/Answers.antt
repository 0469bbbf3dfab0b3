use Rattle.ta_revised.proofs.Common.{◌≡◌, ◌∙◌, List, ℤ, ap, sym, subst, AreBounded, arc_value}
use Rattle.ta_revised.proofs.RowCellFacts.{bounded_stored}
use Rattle.ta_revised.proofs.row_cells.RowCells.greatest.Goals as goal

pub returns-clause-least : goal.returns-clause-least
returns-clause-least c = λ b above all.
    let xs = (arc_value c.self.inside.stored).items in
    let read : c.deref-2.result.now ≡ (arc_value c.self.inside.stored).items = c.deref-2.ensures.value ∙ ap (λ (v : _). v.items) c.deref.ensures in
    let P : List ℤ → Type 0 = AreBounded b in
    c.greatest_of.ensures.least b above
    (subst P (sym read) (bounded_stored b c.self.inside.count xs (subst P (sym c.self.view_is) all)))
