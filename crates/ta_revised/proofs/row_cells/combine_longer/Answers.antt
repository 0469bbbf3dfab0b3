use Rattle.ta_revised.proofs.Common.{◌∙◌, ap, sym, ◌++◌, ℤ, List, pos, ◌*ℤ◌, ◌-ℤ◌, get_or, combine, to_z-of_z}
use Rattle.ta_revised.proofs.RowCellFacts.{combined_longer}
use Rattle.ta_revised.proofs.row_cells.combine_longer.Goals as goal

pub returns : goal.returns
returns c = λ j.
    let fp = c.ranges.p in
    let fq = c.ranges.q in
    let p = c.args.p in
    let q = c.args.q in
    let first = c.split_at_mut-first.result.0.now in
    let rest = c.split_at_mut-first.result.1.now in
    let e = simp to_z-of_z at c.combine_narrow.ensures in
    let f = simp to_z-of_z at c.scale_narrow.ensures in
    ap (λ (xs : List ℤ). get_or (xs ++ c.scale_narrow.new.cells) j (pos 0)) e
    ∙ ap (λ (ys : List ℤ). get_or (combine p q first c.args.chosen.now ++ ys) j (pos 0)) f
    ∙ combined_longer p q first c.args.chosen.now j rest c.split_at_mut-first.ensures.front_len
    ∙ ap (λ (xs : List ℤ). p *ℤ get_or xs j (pos 0) -ℤ q *ℤ get_or c.args.chosen.now j (pos 0)) (sym c.split_at_mut-first.ensures.value)
