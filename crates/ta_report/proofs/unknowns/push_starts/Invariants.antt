use Rattle.ta_report.proofs.Common.{◌≡◌, ◌++◌, map, not, take, filter, has_bit, start_name}
use Rattle.ta_report.proofs.unknowns.push_starts.Given as goal

abbrev pub invariant-loop-location : goal.invariant-loop-location
invariant-loop-location l = l.names.items ≡ l.initial.names.items ++ map (start_name l.automaton) (filter (λ k. not (has_bit l.pattern.empty k))
    (take l.location-index l.automaton.initial))
