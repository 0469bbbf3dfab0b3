use Rattle.ta_linear.proofs.Common.{rules, pos, get_or, FitsSigned, to_z-of_z, w128}
use Rattle.ta_linear.proofs.TermLemmas.{look-found}
use Rattle.ta_linear.proofs.form.Form.coefficient_of.Goals as goal

pub returns-then-at-variable-clause-value : goal.returns-then-at-variable-clause-value
returns-then-at-variable-clause-value c =
    let fits : FitsSigned w128 (get_or c.as_slice-at-items.result.now c.loop-at.at-index (0, pos 0)).1 = search rules in
    simp to_z-of_z (look-found _ _ _ _ (0, pos 0) c.loop-at.invariant c.loop-at-test.true c.if-at-variable.true).0
