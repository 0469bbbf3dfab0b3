use Rattle.ta_moment_tree.proofs.Common.{ℕ, ◌∙◌, ap, Point, event_vector, moments_of}
use Rattle.ta_moment_tree.proofs.Beginning.{moments_more}
use Rattle.ta_moment_tree.proofs.Lists.{map_numbers}
use Rattle.ta_moment_tree.proofs.first.event_moments.Goals as goal

pub loop-event-preserved : goal.loop-event-preserved
loop-event-preserved c =
    let t = c.args.plan.now.task in
    let g = λ (e : ℕ). Point (event_vector t.automaton.now t.pattern.now e) in
    ap moments_of c.in_ok-push.ensures.items ∙ moments_more c.loop-event.moments.items _ _ (g c.loop-event.event) c.loop-event.invariant
    (ap Point c.in_ok-vector.ensures.value) ∙ map_numbers g c.loop-event.event
