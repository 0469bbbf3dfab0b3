use Rattle.ta_report.proofs.Common.{◌≡◌, ◌++◌, map, slice_get, filter, range_with_len, is_moving, fired_name}
use Rattle.ta_report.proofs.unknowns.push_fired.Given as goal

abbrev pub invariant-loop-rule : goal.invariant-loop-rule
invariant-loop-rule l = l.names.items ≡ l.initial.names.items ++ map (fired_name l.automaton l.event) (filter (λ r. is_moving l.pattern
    (slice_get l.automaton.rules r)) (range_with_len 0 l.rule))
