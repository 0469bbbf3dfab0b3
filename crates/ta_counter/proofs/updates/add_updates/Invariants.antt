use Rattle.ta_counter.proofs.Updating.{Updating}
use Rattle.ta_counter.proofs.updates.add_updates.Given as goal

abbrev pub invariant-loop-variable : goal.invariant-loop-variable
invariant-loop-variable l = Updating l.automaton l.rule l.times l.fn.values l.values l.variable-index
