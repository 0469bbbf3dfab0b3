use Rattle.ta_witness.proofs.Common.{◌≡◌, false, int_lt, any_below, count_at}
use Rattle.ta_witness.proofs.stops.is_below.Given as goal

-- no earlier rule fired less often
abbrev pub invariant-loop-rule : goal.invariant-loop-rule
invariant-loop-rule l = any_below l.rule (λ r. int_lt (count_at l.before r) (count_at l.after r)) ≡ false
