use Rattle.ta_linear.proofs.Common.{rules, ◌≤◌, refl, ◌^◌, arith, FitsSigned, inr, ints, to_z-of_z, w128}
use Rattle.ta_linear.proofs.TermLemmas.{merge-push, merge-skip, merge-leaves, merge-end, IsNormal-higher, IsNormal-le}
use Rattle.ta_linear.proofs.form.Form.add.Goals as goal

pub returns-in_err-term-clause-overflow : goal.returns-in_err-term-clause-overflow
returns-in_err-term-clause-overflow c =
    λ _. inr (merge-leaves _ _ _ _ _ c.merge.invariant c.in_err-term.ensures.overflow)

pub merge-preserved-in_ok-push : goal.merge-preserved-in_ok-push
merge-preserved-in_ok-push c =
    let step = rw c.in-Some.is at c.in_ok-term.ensures.some in
    rw c.in_ok-push.ensures.items
    (merge-push _ _ _ _ _ c.in-Some.term _ _ c.merge.invariant step (λ zero. c.if-term-ne0.true (rw zero refl)))

pub merge-preserved : goal.merge-preserved
merge-preserved c =
    let fits : FitsSigned w128 c.in-Some.term.1 = search rules in
    let step = rw c.in-Some.is at c.in_ok-term.ensures.some in
    merge-skip _ _ _ _ _ c.in-Some.term _ _ c.merge.invariant step (omega (arith, ints))

pub invariant_of-result-clause-constant_fits : goal.invariant_of-result-clause-constant_fits
invariant_of-result-clause-constant_fits c =
    let fits : FitsSigned w128 c.in_ok-constant.constant = search rules in
    let told = rw c.in_ok-constant.ensures.ok_part at c.plus.ensures in
    rw (to_z-of_z, told.1) told.0

pub invariant_of-result-clause-normal : goal.invariant_of-result-clause-normal
invariant_of-result-clause-normal c =
    let low : c.merge.invariant.place ≤ 2 ^ 32 = IsNormal-le _ _ _ c.merge.invariant.left_normal in
    rw c.from_vec.ensures (IsNormal-higher 0 _ _ _ low c.merge.invariant.out_normal)

pub returns-clause-ok : goal.returns-clause-ok
returns-clause-ok c =
    let constant : FitsSigned w128 c.in_ok-constant.constant = search rules in
    let mine : FitsSigned w128 c.args.self.now.constant = search rules in
    let other : FitsSigned w128 c.args.other.now.constant = search rules in
    let told = simp to_z-of_z at (rw c.in_ok-constant.ensures.ok_part at c.plus.ensures) in
    let none = rw c.in_default.is at c.in_ok-term.ensures.none in
    record { constant = simp to_z-of_z told.1; coefficients = λ x. rw c.from_vec.ensures (merge-end _ _ _ _ _ c.merge.invariant none.0 none.1 x) }
