use Rattle.ta_walk.proofs.Common.{◌≡◌, drop, map, option_copied, find, is_guard_open, vector_of, guard_of}
use Rattle.ta_walk.specs.Values.{values_of}
use Rattle.ta_walk.proofs.asked_next.first_open.Given as goal

abbrev pub invariant-loop-guard : goal.invariant-loop-guard
invariant-loop-guard l =
    find (is_guard_open l.facts (values_of (option_copied l.vertex)) (vector_of l.end)) (map guard_of l.guards)
    ≡ find (is_guard_open l.facts (values_of (option_copied l.vertex)) (vector_of l.end)) (map guard_of (drop l.guard-index l.guards))
