use Rattle.ta_linear.proofs.Common.{rules, pos, get_or, FitsSigned, slice_index_or, to_z-of_z, w128}
use Rattle.ta_linear.proofs.SumLemmas.{sum-next, sum-place}
use Rattle.ta_linear.proofs.form.Form.value_at.Goals as goal

pub bounds-values-variable : goal.bounds-values-variable
bounds-values-variable c = sum-place _ _ _ _ _ _ _ (0, pos 0) c.loop-variable.invariant c.loop-variable-test.true

pub loop-variable-preserved : goal.loop-variable-preserved
loop-variable-preserved c =
    let fits : FitsSigned w128 (get_or c.as_slice-variable-items.result.now c.loop-variable.variable-index (0, pos 0)).1 = search rules in
    let number : FitsSigned w128 (slice_index_or c.args.values.now (get_or c.as_slice-variable-items.result.now c.loop-variable.variable-index (0, pos 0)).0
    (pos 0)) = search rules in
    let next : FitsSigned w128 c.in-Some.next = search rules in
    let told = simp to_z-of_z at c.in-Some.ensures in
    simp to_z-of_z (sum-next _ _ _ _ _ _ _ (0, pos 0) _ c.loop-variable.invariant c.loop-variable-test.true told.0 told.1)
