use Rattle.ta_compress.proofs.Common.{arith, err_is}
use Rattle.ta_compress.proofs.Counted.{going_none, going_more, going_may, going_room, going_stops, gone_room}
use Rattle.ta_compress.proofs.draft.Draft.repeat.Goals as goal

pub loop-init : goal.loop-init
loop-init c = going_none c.args.scoped.now.file.automaton c.args.rule c.args.factor c.args.self.now c.requires.ready

pub step-requires-clause-ready : goal.step-requires-clause-ready
step-requires-clause-ready c = c.loop.invariant.ready

pub step-requires-clause-may : goal.step-requires-clause-may
step-requires-clause-may c = going_may c.args.scoped.now.file.automaton c.args.rule c.args.factor c.loop.counter c.args.self.now c.loop.self c.loop-test.true
    c.requires.may c.loop.invariant

pub step-requires-clause-room : goal.step-requires-clause-room
step-requires-clause-room c = going_room c.args.scoped.now.file.automaton c.args.rule c.args.factor c.loop.counter c.args.self.now c.loop.self c.loop-test.true
    c.requires.room c.loop.invariant

pub loop-preserved : goal.loop-preserved
loop-preserved c = going_more c.args.scoped.now.file.automaton c.args.rule c.args.factor c.loop.counter c.args.self.now c.loop.self c.step.new.self
    c.loop-test.true c.loop.invariant c.in_ok-step.ensures.advances

pub returns-in_err-step-clause-stops : goal.returns-in_err-step-clause-stops
returns-in_err-step-clause-stops c =
    rw (err_is c.from_residual.result _ c.from_residual.ensures.1)
    (going_stops c.args.scoped.now.file.automaton c.args.rule c.args.factor c.loop.counter c.args.line c.args.self.now c.loop.self c.in_err-step.field-0.0
    c.loop-test.true c.loop.invariant c.in_err-step.ensures.stops)

pub returns-clause-stayed : goal.returns-clause-stayed
returns-clause-stayed c = λ t some most. c.loop.invariant.stayed t some (let past = c.loop-test.false in omega arith)

pub returns-clause-room : goal.returns-clause-room
returns-clause-room c = gone_room c.args.scoped.now.file.automaton c.args.rule c.args.factor c.loop.counter c.args.self.now c.loop.self
    (let past = c.loop-test.false in let end = c.loop.auto.counter-end in omega arith) c.loop.invariant
