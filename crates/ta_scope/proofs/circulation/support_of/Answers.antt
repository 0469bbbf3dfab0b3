use Rattle.ta_scope.proofs.Common.{arith, ints, sym, subst}
use Rattle.ta_scope.proofs.Taken.{SupportBefore, support_none, support_more, support_all}
use Rattle.ta_scope.proofs.circulation.support_of.Goals as goal

pub loop-number-init : goal.loop-number-init
loop-number-init c = subst (SupportBefore c.args.counts.now 0) (sym c.empty-rules.ensures) (support_none c.args.counts.now)

pub loop-number-preserved : goal.loop-number-preserved
loop-number-preserved c = support_more c.args.counts.now c.loop-number.number c.loop-number.rules c.insert_counted.new.rules _ (omega (arith, ints))
    c.loop-number.invariant c.insert_counted.ensures

pub returns : goal.returns
returns c = support_all c.args.counts.now c.loop-number.number c.loop-number.rules (omega arith) c.loop-number.invariant
