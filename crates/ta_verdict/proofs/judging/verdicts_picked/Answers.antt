use Rattle.ta_verdict.proofs.Common.{Begun}
use Rattle.ta_verdict.proofs.JudgedSoFar.{err_any, had_more, judged_all, judged_more, judged_none, judged_there}
use Rattle.ta_verdict.proofs.judging.verdicts_picked.Goals as goal

pub loop-pattern-init : goal.loop-pattern-init
loop-pattern-init g c = judged_none c.picked_range-first.ensures.first c.picked_range-first.ensures.end c.new-verdicts.ensures.items

pub next_verdict-requires-clause-exists : goal.next_verdict-requires-clause-exists
next_verdict-requires-clause-exists g c κs within = judged_there c.loop-pattern.invariant c.loop-pattern-test.true

pub loop-pattern-preserved : goal.loop-pattern-preserved
loop-pattern-preserved g c =
    let made = c.in_ok-next_verdict.ensures in
    rw c.in_ok-push.ensures.items
    (judged_more (λ (begun : Begun). g.T.Target.has begun c.next_verdict.new.target c.next_verdict.new.place) (g.T.Target.wants c.next_verdict.new.target)
    c.in_ok-next_verdict.field-0 c.loop-pattern.invariant c.loop-pattern-test.true made.holds made.fits made.adds made.wanted)

pub returns-in_err-next_verdict-clause-stops : goal.returns-in_err-next_verdict-clause-stops
returns-in_err-next_verdict-clause-stops g c = λ begun text has.
    let so = had_more c.loop-pattern.invariant begun text has in
    err_any c.from_residual.result _ (c.in_err-next_verdict.ensures.stops begun so.0 so.1)

pub returns-in_err-push-clause-stops : goal.returns-in_err-push-clause-stops
returns-in_err-push-clause-stops g c = λ begun text has.
    let made = c.in_ok-next_verdict.ensures in
    let next = judged_more (λ (b : Begun). g.T.Target.has b c.next_verdict.new.target c.next_verdict.new.place) (g.T.Target.wants c.next_verdict.new.target)
    c.in_ok-next_verdict.field-0 c.loop-pattern.invariant c.loop-pattern-test.true made.holds made.fits made.adds made.wanted in
    let so = had_more next begun text has in
    err_any c.from_residual-in_err-push.result _ (g.met.T.Target.may_stop begun c.next_verdict.new.target c.next_verdict.new.place so.0 so.1)

pub returns-clause-verdicts : goal.returns-clause-verdicts
returns-clause-verdicts g c =
    let so = c.loop-pattern.invariant in
    record { hold = (judged_all so c.loop-pattern-test.false).0; fit = so.fit }

pub returns-clause-trees : goal.returns-clause-trees
returns-clause-trees g c = (judged_all c.loop-pattern.invariant c.loop-pattern-test.false).1

pub returns-clause-wanted : goal.returns-clause-wanted
returns-clause-wanted g c = c.loop-pattern.invariant.same
