use Rattle.ta_walk.proofs.Common.{length}
use Rattle.ta_walk.proofs.OrderSteps.{found_on, next_guard}
use Rattle.ta_walk.proofs.finding.find_orders.Goals as goal

pub loop-after-preserved : goal.loop-after-preserved
loop-after-preserved g c =
    let automaton = c.args.scoped.now.file.automaton in
    let tried = c.in_ok-try_before.ensures in
    record {
      found = found_on automaton c.loop-after.after c.loop-after.sought.list.items c.try_before.new.sought.list.items c.loop-after.invariant.found tried.found;
      kept = next_guard (length automaton.rise) c.loop-after.after c.try_before.new.sought tried.kept;
    }
