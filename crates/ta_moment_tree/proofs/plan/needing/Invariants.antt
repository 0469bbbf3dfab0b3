use Rattle.ta_moment_tree.proofs.Common.{◌≡◌, slice_get, take, filter, has_guard}
use Rattle.ta_moment_tree.proofs.plan.needing.Given as goal

abbrev pub invariant-loop-rule : goal.invariant-loop-rule
invariant-loop-rule l = l.rules.items ≡ filter (λ r. has_guard l.automaton l.guard (slice_get l.automaton.rules r)) (take l.rule-index l.moving)
