use Rattle.ta_program.proofs.Common.{◌≡◌, ◌∙◌, ap, arith, at_drop_all, drop, length, most_events}
use Rattle.ta_program.proofs.Counting.{most_more, ord_larger}
use Rattle.ta_program.proofs.count.most_events.Goals as goal

pub loop-pattern-preserved : goal.loop-pattern-preserved
loop-pattern-preserved c =
    most_more c.args.patterns.now c.loop-pattern.pattern-index c.pattern-item.result c.loop-pattern.most _ c.max-most.result
    c.loop-pattern-test.true c.pattern-item.is (ap length c.as_slice.ensures) (c.max-most.ensures ∙ ord_larger _ _) c.loop-pattern.invariant

pub returns : goal.returns
returns c =
    let ps = c.args.patterns.now in
    let none : most_events (drop c.loop-pattern.pattern-index ps) ≡ 0 = at_drop_all most_events ps c.loop-pattern.pattern-index (omega arith) in
    omega (arith, none, c.loop-pattern.invariant)
