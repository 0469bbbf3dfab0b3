use Rattle.ta_counter.proofs.Common.{◌≡◌, ◌<◌, ◌∙◌, Some, slice_get, sym, ap, subst, length, List, arith, FitsSigned, to_z-of_z, same_Some, err_is, w128}
use Rattle.ta_counter.proofs.Common.{read_same, Rule, StepFails, StepIsTaken}
use Rattle.ta_counter.proofs.Stepping.{taken_fires, no_steps}
use Rattle.ta_counter.proofs.config.Config.accelerated_step.Goals as goal
use Rattle.ta_counter.proofs.config.Config.accelerated_step.Goals.{After-index-as_slice-rule}

-- the rule that is read is the one of this number
rule_named : (c : After-index-as_slice-rule) → slice_get c.args.automaton.now.rules c.args.rule ≡ Some c.index-as_slice-rule.result
rule_named c =
    let count = ap (λ (rs : List Rule). length rs) c.as_slice.ensures in
    let exists : c.args.rule < length c.as_slice.result.now = (let e = c.requires.exists in omega arith) in
    read_same c.args.automaton.now.rules c.as_slice.result.now c.args.rule c.index-as_slice-rule.result c.as_slice.ensures exists c.index-as_slice-rule.is

pub returns-in_err-after-clause-no_steps : goal.returns-in_err-after-clause-no_steps
returns-in_err-after-clause-no_steps c =
    let a = c.args.automaton.now in
    let rule = c.index-as_slice-rule.result in
    let named = rule_named (goal.at.returns-in_err-after-clause-no_steps c).After-index-as_slice-rule in
    let factor : FitsSigned w128 c.args.factor = c.ranges.factor in
    let fails = simp to_z-of_z at c.in_err-after.ensures.fails in
    rw (err_is c.from_residual.result _ c.from_residual.ensures.1)
    (no_steps a c.args.rule rule c.args.factor c.args.self.now _ named c.requires.factor c.requires.is_of
    (subst (λ vs. StepFails a rule c.args.factor vs c.in_err-after.field-0.0) c.as_slice-2.ensures.value fails))

pub returns-clause-answer : goal.returns-clause-answer
returns-clause-answer c =
    let a = c.args.automaton.now in
    let rule = c.index-as_slice-rule.result in
    let named = rule_named (goal.at.returns-clause-answer c).After-index-as_slice-rule in
    let factor : FitsSigned w128 c.args.factor = c.ranges.factor in
    let told = simp to_z-of_z at c.in_ok-after.ensures.ok in
    let from = subst (λ vs. StepIsTaken a rule c.args.factor vs c.in_ok-after.after.items) c.as_slice-2.ensures.value told in
    λ other at. subst (λ (q : Rule). StepIsTaken a q c.args.factor c.args.self.now.values.items c.in_ok-after.after.items)
    (same_Some rule other (sym named ∙ at)) from

pub returns-clause-steps : goal.returns-clause-steps
returns-clause-steps c =
    let a = c.args.automaton.now in
    let rule = c.index-as_slice-rule.result in
    let named = rule_named (goal.at.returns-clause-steps c).After-index-as_slice-rule in
    let factor : FitsSigned w128 c.args.factor = c.ranges.factor in
    let told = simp to_z-of_z at c.in_ok-after.ensures.ok in
    let from = subst (λ vs. StepIsTaken a rule c.args.factor vs c.in_ok-after.after.items) c.as_slice-2.ensures.value told in
    (taken_fires a c.args.rule rule c.args.factor c.args.self.now.values.items c.in_ok-after.after.items named c.requires.factor c.args.self.now.natural
    c.requires.is_of c.in_ok-after.ensures.natural from)
