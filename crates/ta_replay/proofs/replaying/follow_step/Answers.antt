use Rattle.ta_replay.proofs.Common.{refl, sym, ◌∙◌, subst, FitsSigned, false≢true, to_z-of_z, w128, StepFails}
use Rattle.ta_replay.proofs.Values.{empty_at, keeps_at}
use Rattle.ta_replay.proofs.replaying.follow_step.Goals as goal

pub returns-in-Err-OutOfRange-clause-refuses : goal.returns-in-Err-OutOfRange-clause-refuses
returns-in-Err-OutOfRange-clause-refuses c =
    let factor : FitsSigned w128 c.args.factor = c.ranges.factor in
    let told = simp to_z-of_z at c.in-Err-OutOfRange.ensures.answer in (
      refl,
      (
        c.in-Err-OutOfRange.field-0-0,
        λ rule at. subst (StepFails c.args.automaton.now rule c.args.factor c.args.config.now.values.items)
            c.in-Err-OutOfRange.field-0-is (told rule at),
      ),
    )

pub returns-in-Err-Guard-clause-refuses : goal.returns-in-Err-Guard-clause-refuses
returns-in-Err-Guard-clause-refuses c =
    let factor : FitsSigned w128 c.args.factor = c.ranges.factor in
    let told = simp to_z-of_z at c.in-Err-Guard.ensures.answer in
    (refl, λ rule at. subst (StepFails c.args.automaton.now rule c.args.factor c.args.config.now.values.items) c.in-Err-Guard.field-0-is (told rule at))

pub returns-then-not-holds_empty-clause-refuses : goal.returns-then-not-holds_empty-clause-refuses
returns-then-not-holds_empty-clause-refuses c =
    let factor : FitsSigned w128 c.args.factor = c.ranges.factor in
    let told = simp to_z-of_z at c.in-Ok.ensures.answer in
    let after = c.accelerated_step.new.self in (
      refl,
      (
        after.values.items,
        told,
        λ empty. false≢true
            (sym c.if-not-holds_empty.true ∙ c.holds_empty.ensures.1
            (keeps_at c.args.automaton.now after c.args.pattern.now.empty c.in-Ok.ensures.is_of empty)),
      ),
    )

pub returns-clause-takes : goal.returns-clause-takes
returns-clause-takes c =
    let factor : FitsSigned w128 c.args.factor = c.ranges.factor in
    simp to_z-of_z at c.in-Ok.ensures.answer

pub returns-clause-kept : goal.returns-clause-kept
returns-clause-kept c =
    empty_at c.args.automaton.now c.accelerated_step.new.self c.args.pattern.now.empty c.in-Ok.ensures.is_of
    (c.holds_empty.ensures.0 c.if-not-holds_empty.false)
