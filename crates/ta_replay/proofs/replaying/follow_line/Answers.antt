use Rattle.ta_replay.proofs.Common.{IsBitSet, subst, sym, FitsSigned, rules, to_z-of_z, err_is, w128, RunLine, LineTakes, LineRefuses}
use Rattle.ta_replay.proofs.Values.{event_over}
use Rattle.ta_replay.proofs.replaying.follow_line.Goals as goal

pub follow_mark-requires-clause-over : goal.follow_mark-requires-clause-over
follow_mark-requires-clause-over c = λ e event at. event_over c.args.automaton.now c.args.pattern.now c.args.config.now c.requires.within c.requires.is_of e
    event at

pub returns-in_err-follow_step-in-Step-clause-refuses :
    goal.returns-in_err-follow_step-in-Step-clause-refuses
returns-in_err-follow_step-in-Step-clause-refuses c =
    let factor : FitsSigned w128 c.in-Step.factor = search rules in
    let told = simp to_z-of_z at c.in_err-follow_step-in-Step.ensures.refuses in
    rw (err_is c.from_residual.result _ c.from_residual.ensures.1)
    (subst (λ (line : RunLine). LineRefuses c.args.automaton.now c.args.pattern.now (IsBitSet c.args.marks) c.args.config.now.values.items line c.args.number
    c.in_err-follow_step-in-Step.field-0.0) (sym c.in-Step.is) told)

pub returns-in_ok-follow_step-in-Step-clause-takes :
    goal.returns-in_ok-follow_step-in-Step-clause-takes
returns-in_ok-follow_step-in-Step-clause-takes c =
    let factor : FitsSigned w128 c.in-Step.factor = search rules in
    let told = simp to_z-of_z at c.in_ok-follow_step-in-Step.ensures.takes in
    subst (λ (line : RunLine). LineTakes c.args.automaton.now c.args.pattern.now (IsBitSet c.args.marks) c.args.config.now.values.items line
    c.follow_step.new.config.values.items) (sym c.in-Step.is)
    (told, c.in_ok-follow_step-in-Step.ensures.kept)
