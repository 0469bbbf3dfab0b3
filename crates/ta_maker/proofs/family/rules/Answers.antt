use Rattle.ta_maker.proofs.Common.{arith, plain_rule}
use Rattle.ta_maker.proofs.Counting.{more_rules}
use Rattle.ta_maker.proofs.family.rules.Goals as goal

pub loop-index-preserved : goal.loop-index-preserved
loop-index-preserved c =
    let below = c.loop-index-test.true in
    record {
      low = omega arith;
      all = rw (c.in_ok-push-2.ensures.items, c.in_ok-push.ensures.items)
          (more_rules plain_rule c.loop-index.rules.items c.in_ok-sender.field-0 c.in_ok-waiter.field-0 c.loop-index.index c.args.k _ (omega (arith, below))
          c.in_ok-sender.ensures c.in_ok-waiter.ensures c.loop-index.invariant.all);
    }
