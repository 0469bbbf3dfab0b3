use Rattle.ta_moment_tree.proofs.Common.{◌≡◌, ◌≤◌, length, slice_get, filter, range_with_len, has_guard}
use Rattle.ta_moment_tree.proofs.answer.guard_of.Given as goal

abbrev pub invariant-loop-guard : goal.invariant-loop-guard
invariant-loop-guard l = record {
  is : l.passed ≡ length (filter (λ g. has_guard l.automaton g (slice_get l.automaton.rules l.rule)) (range_with_len 0 l.guard));
  most : l.passed ≤ l.number;
}
