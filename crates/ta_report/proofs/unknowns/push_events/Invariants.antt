use Rattle.ta_report.proofs.Common.{◌≡◌, ◌++◌, take, flat_map, fired_names}
use Rattle.ta_report.proofs.unknowns.push_events.Given as goal

abbrev pub invariant-loop-event : goal.invariant-loop-event
invariant-loop-event l = l.names.items ≡ l.initial.names.items ++ flat_map (fired_names l.automaton l.pattern) (take l.event-index l.pattern.events)
