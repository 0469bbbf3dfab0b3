use Rattle.ta_dense.proofs.Common.{ap, sym, subst, ◌∙◌, rules, length, set, combine, to_z-of_z, with_items_is, SFits, w128, InRange}
use Rattle.std.specs.List.{All}
use Rattle.ta_base.proofs.Booleans.{OnTrue-weaker}
use Rattle.ta_dense.proofs.RowFacts.{row_same}
use Rattle.ta_dense.proofs.rows.merge_by.Goals as goal

pub returns : goal.returns
returns c =
    let fp = c.ranges.p in
    let fq = c.ranges.q in
    let f1 : SFits w128 c.args.row.now.denominator = search rules in
    let f2 : SFits w128 c.args.row.now.constant = search rules in
    let f3 : SFits w128 c.args.chosen.now.denominator = search rules in
    let f4 : SFits w128 c.args.chosen.now.constant = search rules in
    let g1 : SFits w128 c.in-Some.denominator = search rules in
    let g2 : SFits w128 c.in-Some-combined.constant = search rules in
    let g3 : SFits w128 c.in-Some-multiply.turned = search rules in
    let a = simp to_z-of_z at c.in-Some.ensures in
    let b = simp to_z-of_z at c.in-Some-combined.ensures in
    let d = simp to_z-of_z at c.in-Some-multiply.ensures in
    let within = rw (c.deref_mut.ensures.value, c.deref.ensures.value) at (simp to_z-of_z at c.combine_cells.ensures.within) in
    let value = rw (c.deref_mut.ensures.value, c.deref.ensures.value) at (simp to_z-of_z at c.combine_cells.ensures.value) in
    let items = with_items_is c.args.row.now.cells c.combine_cells.new.cells (c.combine_cells.auto.cells ∙ ap length c.deref_mut.ensures.value ∙ search rules)
    in
    record {
      within = (λ t. record { denominator = a.0; constant = b.0; turned = d.0; cells = within.0 t }, λ m. within.1 m.cells);
      value = simp to_z-of_z
          (OnTrue-weaker c.combine_cells.result _ _
          (λ same. row_same c.args.row.now.basic _ _ _ _ _ _ a.1 b.1
          (items ∙ same ∙ ap (set (combine c.args.p c.args.q c.args.row.now.cells.items c.args.chosen.now.cells.items) c.args.column) d.1)) value);
    }

pub returns-in_default-clause-within : goal.returns-in_default-clause-within
returns-in_default-clause-within c =
    let fp = c.ranges.p in
    let f : SFits w128 c.args.row.now.denominator = search rules in
    let none = simp to_z-of_z at c.in_default.ensures in
    (search rules, λ merges. absurd (none merges.denominator))

pub returns-in_default-combined-clause-within : goal.returns-in_default-combined-clause-within
returns-in_default-combined-clause-within c =
    let fp = c.ranges.p in
    let fq = c.ranges.q in
    let f : SFits w128 c.args.row.now.constant = search rules in
    let g : SFits w128 c.args.chosen.now.constant = search rules in
    let none = simp to_z-of_z at c.in_default-combined.ensures in
    (search rules, λ merges. absurd (none merges.constant))

pub returns-in_default-multiply-clause-within : goal.returns-in_default-multiply-clause-within
returns-in_default-multiply-clause-within c =
    let fq = c.ranges.q in
    let f : SFits w128 c.args.chosen.now.denominator = search rules in
    let none = simp to_z-of_z at c.in_default-multiply.ensures in
    (search rules, λ merges. absurd (none merges.turned))

pub combine_cells-requires-clause-cells : goal.combine_cells-requires-clause-cells
combine_cells-requires-clause-cells c = subst (All InRange) (sym c.deref_mut.ensures.value) c.requires.cells

pub combine_cells-requires-clause-long : goal.combine_cells-requires-clause-long
combine_cells-requires-clause-long c = ap length c.deref_mut.ensures.value ∙ c.requires.long ∙ sym (ap length c.deref.ensures.value)
