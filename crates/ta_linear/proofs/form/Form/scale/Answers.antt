use Rattle.ta_linear.proofs.Common.{rules, ap, ◌≤◌, ◌≢◌, ◌^◌, pos, FitsSigned, inr, of_z, get_or, to_z-of_z, w128}
use Rattle.ta_linear.proofs.TermLemmas.{scale-push-at, scale-leaves-at, scale-end, IsNormal-higher, IsNormal-le}
use Rattle.ta_linear.proofs.form.Form.scale.Goals as goal

pub returns-in_err-product-clause-overflow : goal.returns-in_err-product-clause-overflow
returns-in_err-product-clause-overflow c =
    let factor : FitsSigned w128 c.args.factor = c.ranges.factor in
    let fits : FitsSigned w128 (get_or c.as_slice-variable-items.result.now c.loop-variable.variable-index (0, pos 0)).1 = search rules in
    let told = simp to_z-of_z at (rw c.in_err-product.ensures.ok_part at c.multiply-in-loop-variable.ensures) in
    let inv = simp to_z-of_z at c.loop-variable.invariant in
    λ _. inr (scale-leaves-at _ _ _ _ _ _ inv c.loop-variable-test.true told)

pub loop-variable-preserved : goal.loop-variable-preserved
loop-variable-preserved c =
    let factor : FitsSigned w128 c.args.factor = c.ranges.factor in
    let fits : FitsSigned w128 (get_or c.as_slice-variable-items.result.now c.loop-variable.variable-index (0, pos 0)).1 = search rules in
    let product : FitsSigned w128 c.in_ok-product.product = search rules in
    let told = simp to_z-of_z at (rw c.in_ok-product.ensures.ok_part at c.multiply-in-loop-variable.ensures) in
    let inv = simp to_z-of_z at c.loop-variable.invariant in
    let ne : c.args.factor ≢ pos 0 = λ zero. c.if-factor-eq0.false (ap (of_z w128) zero) in
    simp (to_z-of_z, c.in_ok-push.ensures.items)
    (scale-push-at _ _ _ _ _ _ _ inv c.loop-variable-test.true ne told.1 (rw told.1 told.0))

pub invariant_of-result-clause-constant_fits : goal.invariant_of-result-clause-constant_fits
invariant_of-result-clause-constant_fits c =
    let fits : FitsSigned w128 c.in_ok-constant.constant = search rules in
    let told = rw c.in_ok-constant.ensures.ok_part at c.multiply.ensures in
    rw (to_z-of_z, told.1) told.0

pub invariant_of-result-clause-normal : goal.invariant_of-result-clause-normal
invariant_of-result-clause-normal c =
    let low : c.loop-variable.invariant.place ≤ 2 ^ 32 = IsNormal-le _ _ _ c.loop-variable.invariant.left_normal in
    rw c.from_vec.ensures (IsNormal-higher 0 _ _ _ low c.loop-variable.invariant.out_normal)

pub returns-clause-ok : goal.returns-clause-ok
returns-clause-ok c =
    let factor : FitsSigned w128 c.args.factor = c.ranges.factor in
    let constant : FitsSigned w128 c.in_ok-constant.constant = search rules in
    let mine : FitsSigned w128 c.args.self.now.constant = search rules in
    let told = simp to_z-of_z at (rw c.in_ok-constant.ensures.ok_part at c.multiply.ensures) in
    let inv = simp to_z-of_z at c.loop-variable.invariant in
    record { constant = simp to_z-of_z told.1; coefficients = λ x. rw c.from_vec.ensures (scale-end _ _ _ _ _ inv c.loop-variable-test.false x) }
