use Rattle.ta_walk.proofs.OrderSteps.{tried_on}
use Rattle.ta_walk.proofs.finding.try_before.Goals as goal

pub try_pair-requires-after_bounds : goal.try_pair-requires-after_bounds
try_pair-requires-after_bounds g c κs within = c.loop-before.invariant.kept

pub loop-before-preserved : goal.loop-before-preserved
loop-before-preserved g c = tried_on c.args.automaton.now c.loop-before.before c.args.after c.args.sought.now c.loop-before.sought c.try_pair.new.sought
    c.loop-before.invariant c.in_ok-try_pair.ensures
