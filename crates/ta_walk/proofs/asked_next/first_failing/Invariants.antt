use Rattle.ta_walk.proofs.Common.{◌≡◌, drop, map, option_copied, find, fails_at_end, is_guard_open, vector_of, guard_of}
use Rattle.std.proofs.Common.{◌&&◌}
use Rattle.ta_walk.specs.Values.{values_of}
use Rattle.ta_walk.proofs.asked_next.first_failing.Given as goal

abbrev pub invariant-loop-guard : goal.invariant-loop-guard
invariant-loop-guard l =
    find (λ guard. is_guard_open l.facts (values_of (option_copied l.vertex)) (vector_of l.end) guard
    && fails_at_end (values_of (option_copied l.vertex)) guard) (map guard_of l.guards)
    ≡ find (λ guard. is_guard_open l.facts (values_of (option_copied l.vertex)) (vector_of l.end) guard
    && fails_at_end (values_of (option_copied l.vertex)) guard) (map guard_of (drop l.guard-index l.guards))
