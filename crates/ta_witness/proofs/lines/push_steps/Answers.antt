use Rattle.ta_witness.proofs.Common.{◌∙◌, ◌++◌, ap, subst, ℕ, ℤ, List, map, take_all, AllByRecursion, step_line, rules, ◌<ℤ◌, ◌^◌, pos, arith, get_or}
use Rattle.ta_witness.proofs.Common.{FitsSigned, w128, to_z-of_z, ints, IfOk-from_err}
use Rattle.ta_witness.proofs.Making.{steps_push}
use Rattle.ta_witness.proofs.lines.push_steps.Goals as goal

pub loop-step-preserved : goal.loop-step-preserved
loop-step-preserved c =
    let z = (get_or c.args.steps.now c.loop-step.step-index (0, pos 0)).1 in
    let fits : FitsSigned w128 z = search rules in
    let below : z <ℤ pos (2 ^ 127) = omega (arith, ints) in
    let items = simp to_z-of_z at c.in_ok-push.ensures.items in
    steps_push c.args.steps.now c.loop-step.step-index (0, pos 0) c.args.lines.now.items c.loop-step.lines.items c.push.new.self.items c.loop-step-test.true
    c.loop-step.invariant items below

pub returns-clause-added : goal.returns-clause-added
returns-clause-added c =
    c.loop-step.invariant.0
    ∙ ap (λ (xs : List (ℕ × ℤ)). c.args.lines.now.items ++ map step_line xs) (take_all c.loop-step.step-index c.args.steps.now c.loop-step-test.false)

pub returns-clause-fit : goal.returns-clause-fit
returns-clause-fit c =
    subst (AllByRecursion (λ (step : ℕ × ℤ). step.1 <ℤ pos (2 ^ 127))) (take_all c.loop-step.step-index c.args.steps.now c.loop-step-test.false)
    c.loop-step.invariant.1

pub returns-in_err-push-clause-added : goal.returns-in_err-push-clause-added
returns-in_err-push-clause-added c = IfOk-from_err c.from_residual.result _ c.from_residual.ensures.0

pub returns-in_err-push-clause-fit : goal.returns-in_err-push-clause-fit
returns-in_err-push-clause-fit c = IfOk-from_err c.from_residual.result _ c.from_residual.ensures.0
