use Rattle.ta_moment_tree.proofs.Common.{◌≡◌, ◌∷◌, map, slice_get, filter, range_with_len, has_guard, Vacant, Fails}
use Rattle.ta_moment_tree.proofs.answers.stuck_answers.Given as goal

abbrev pub invariant-loop-guard : goal.invariant-loop-guard
invariant-loop-guard l = l.facts.items ≡ Vacant l.rule ∷ map (Fails l.rule)
    (filter (λ g. has_guard l.automaton g (slice_get l.automaton.rules l.rule)) (range_with_len 0 l.guard))
