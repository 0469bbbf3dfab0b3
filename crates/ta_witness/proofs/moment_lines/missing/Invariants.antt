use Rattle.ta_witness.proofs.Common.{◌≡◌, map, range_with_len, count_at, gap}
use Rattle.ta_witness.proofs.moment_lines.missing.Given as goal

-- those of the earlier rules
abbrev pub invariant-loop-rule : goal.invariant-loop-rule
invariant-loop-rule l = l.counts.items ≡ map (λ r. gap (count_at l.before r) (count_at l.after r)) (range_with_len 0 l.rule)
