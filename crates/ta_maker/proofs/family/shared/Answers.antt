use Rattle.ta_maker.proofs.Common.{arith, codes, plain_name, numbered}
use Rattle.ta_base.proofs.Ranges.{next_counted}
use Rattle.ta_maker.proofs.Naming.{name_x}
use Rattle.ta_maker.proofs.family.shared.Goals as goal

pub numbered-requires : goal.numbered-requires
numbered-requires c =
    let low = c.loop-index.invariant.low in
    let below = c.loop-index-test.true in
    let high = c.requires.high in
    name_x c.loop-index.index (record { low = low; high = omega (arith, below, high) })

pub loop-index-preserved : goal.loop-index-preserved
loop-index-preserved c =
    let below = c.loop-index-test.true in
    record {
      low = omega arith;
      all = rw c.in_ok-push.ensures.items
          (next_counted plain_name (numbered (codes "x")) c.loop-index.names.items c.in_ok-numbered.field-0 c.loop-index.index c.args.k _ (omega (arith, below))
          c.in_ok-numbered.ensures c.loop-index.invariant.all);
    }
