use Rattle.ta_rest.proofs.Common.{arith, length, refl, slice_get_read, slice_get_within}
use Rattle.ta_rest.proofs.PatternMasks.{more_patterns}
use Rattle.ta_rest.proofs.endings.without_events.Goals as goal

pub loop-number-preserved : goal.loop-number-preserved
loop-number-preserved c =
    let patterns = c.args.patterns.now in
    let named = slice_get_read patterns (length patterns) c.loop-number.number c.index-patterns-number.result refl c.loop-number-test.true
    c.index-patterns-number.is in
    more_patterns patterns c.loop-number.number c.loop-number.mask c.with_pattern-mask.result c.index-patterns-number.result named c.with_pattern-mask.ensures
    c.loop-number.invariant

pub returns : goal.returns
returns c = λ k. (
  λ set. ((c.loop-number.invariant k).0 set).1,
  λ w. (c.loop-number.invariant k).1 ((let within = slice_get_within c.args.patterns.now k w.0 w.1 in omega arith), w),
)
