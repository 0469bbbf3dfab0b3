use Rattle.ta_revised.proofs.Common.{◌≡◌, ◌∙◌, List, ℤ, ap, sym, get_or, pos, length, arith, rules, get_or_past, arc_value, vec_len}
use Rattle.ta_revised.proofs.RowCellFacts.{cell_behind}
use Rattle.ta_revised.proofs.row_cells.RowCells.stored.Goals as goal

pub returns-clause-behind : goal.returns-clause-behind
returns-clause-behind c = λ j past.
    let xs = (arc_value c.self.inside.stored).items in
    let len : vec_len c.deref.result.now ≡ length c.deref.result.now.items = search rules in
    let all : length (arc_value c.self.inside.stored).items ≡ c.len.result = rw (sym c.deref.ensures) (sym (c.len.ensures ∙ len)) in
    ap (λ (ys : List ℤ). get_or ys j (pos 0)) (sym c.self.view_is) ∙ cell_behind xs c.self.inside.count j ∙ get_or_past xs j (pos 0) (omega arith)
