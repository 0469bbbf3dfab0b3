use Rattle.ta_report.proofs.Common.{◌≡◌, ◌++◌, take}
use Rattle.ta_report.proofs.unknowns.push_parameters.Given as goal

abbrev pub invariant-loop-name : goal.invariant-loop-name
invariant-loop-name l = l.names.items ≡ l.initial.names.items ++ take l.name-index l.automaton.parameters
