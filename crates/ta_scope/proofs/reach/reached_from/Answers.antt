use Rattle.std.proofs.Common.{arith}
use Rattle.ta_scope.proofs.Reaching.{reached_first, reached_more, reaches_exactly}
use Rattle.ta_scope.proofs.reach.reached_from.Goals as goal

pub loop-more-init : goal.loop-more-init
loop-more-init c =
    let a = c.args.automaton.now in
    let limit = a.shape.limits.locations_limit in
    reached_first a c.args.rules.now c.args.location (let b = c.requires in omega arith)

pub loop-more-preserved : goal.loop-more-preserved
loop-more-preserved c =
    reached_more c.args.automaton.now c.args.rules.now c.args.location c.loop-more.reached c.in-Some.more c.loop-more.invariant c.in-Some.ensures.some

pub returns : goal.returns
returns c =
    reaches_exactly c.args.automaton.now c.args.rules.now c.args.location c.loop-more.reached c.loop-more.invariant c.in_default.ensures.none
