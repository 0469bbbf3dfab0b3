use Rattle.ta_revised.proofs.Common.{ap, refl, rules, sym, ◌∙◌, ◌-ℤ◌, pos, to_z-of_z, zero_minus, row_same, TableauRow, narrow_view, plus_row, w16, SFits}
use Rattle.ta_revised.proofs.SlackFacts.{narrow_plus_row, product_fits, sum_fits, all_combine_fit}
use Rattle.ta_revised.proofs.slack.add_row.Goals as goal

pub overflow_mul-sum : goal.overflow_mul-sum
overflow_mul-sum c =
    let f = c.ranges.factor in
    let g : SFits w16 c.args.row.now.constant = search rules in
    let abs = simp to_z-of_z at c.unsigned_abs-times.ensures.value in
    let less = rw abs at c.in-Some.ensures.room in
    let bound = c.in-Some.ensures.bound in
    simp to_z-of_z (product_fits c.args.factor c.args.row.now.constant c.in-Some.bound c.bound_beside.new.sum.bound bound.constant less)

pub overflow_add-sum : goal.overflow_add-sum
overflow_add-sum c =
    let f = c.ranges.factor in
    let g : SFits w16 c.args.row.now.constant = search rules in
    let h : SFits w16 c.bound_beside.new.sum.constant = search rules in
    let abs = simp to_z-of_z at c.unsigned_abs-times.ensures.value in
    let less = rw abs at c.in-Some.ensures.room in
    let bound = c.in-Some.ensures.bound in
    let p = product_fits c.args.factor c.args.row.now.constant c.in-Some.bound c.bound_beside.new.sum.bound bound.constant less in
    simp to_z-of_z (sum_fits c.args.factor c.bound_beside.new.sum.constant c.args.row.now.constant c.bound_beside.new.sum.bound c.in-Some.bound
    c.in-Some.ensures.narrow.bounded.constant bound.constant less)

pub combine-requires-clause-fit : goal.combine-requires-clause-fit
combine-requires-clause-fit c =
    let f = c.ranges.factor in
    let n : SFits w16 (pos 0 -ℤ c.args.factor) = search rules in
    let abs = simp to_z-of_z at c.unsigned_abs-times.ensures.value in
    let less = rw abs at c.in-Some.ensures.room in
    let bound = c.in-Some.ensures.bound in
    simp to_z-of_z (simp zero_minus (all_combine_fit c.args.factor c.bound_beside.new.sum.bound c.in-Some.bound c.bound_beside.new.sum.cells
    c.args.row.now.cells (c.requires.row.proper.long ∙ sym c.in-Some.ensures.narrow.proper.long) c.in-Some.ensures.narrow.bounded.cells bound.cells less))

pub returns-clause-value : goal.returns-clause-value
returns-clause-value c =
    let f = c.ranges.factor in
    let g : SFits w16 c.args.row.now.constant = search rules in
    let h : SFits w16 c.bound_beside.new.sum.constant = search rules in
    let n : SFits w16 (pos 0 -ℤ c.args.factor) = search rules in
    let abs = simp to_z-of_z at c.unsigned_abs-times.ensures.value in
    let less = rw abs at c.in-Some.ensures.room in
    let bound = c.in-Some.ensures.bound in
    let p = product_fits c.args.factor c.args.row.now.constant c.in-Some.bound c.bound_beside.new.sum.bound bound.constant less in
    let s = sum_fits c.args.factor c.bound_beside.new.sum.constant c.args.row.now.constant c.bound_beside.new.sum.bound c.in-Some.bound
    c.in-Some.ensures.narrow.bounded.constant bound.constant less in
    let cells = simp zero_minus at (simp to_z-of_z at c.in_ok-combine.ensures) in
    simp to_z-of_z (row_same c.bound_beside.new.sum.basic c.bound_beside.new.sum.denominator c.bound_beside.new.sum.denominator _ _ _ _ refl refl cells
    ∙ ap (λ (sum : TableauRow). plus_row c.args.factor (narrow_view c.args.row.now) sum) c.in-Some.ensures.view)

pub returns-clause-narrow : goal.returns-clause-narrow
returns-clause-narrow c =
    let f = c.ranges.factor in
    let g : SFits w16 c.args.row.now.constant = search rules in
    let h : SFits w16 c.bound_beside.new.sum.constant = search rules in
    let n : SFits w16 (pos 0 -ℤ c.args.factor) = search rules in
    let abs = simp to_z-of_z at c.unsigned_abs-times.ensures.value in
    let less = rw abs at c.in-Some.ensures.room in
    let bound = c.in-Some.ensures.bound in
    let p = product_fits c.args.factor c.args.row.now.constant c.in-Some.bound c.bound_beside.new.sum.bound bound.constant less in
    let s = sum_fits c.args.factor c.bound_beside.new.sum.constant c.args.row.now.constant c.bound_beside.new.sum.bound c.in-Some.bound
    c.in-Some.ensures.narrow.bounded.constant bound.constant less in
    let cells = simp zero_minus at (simp to_z-of_z at c.in_ok-combine.ensures) in
    simp to_z-of_z (narrow_plus_row _ c.args.factor c.in-Some.bound _ c.bound_beside.new.sum _ c.in-Some.ensures.narrow bound c.requires.row.proper.long
    (row_same c.bound_beside.new.sum.basic c.bound_beside.new.sum.denominator c.bound_beside.new.sum.denominator _ _ _ _ refl refl cells) (rw abs refl)
    c.in-Some.ensures.room)
