use Rattle.ta_counter.specs.Configs.{IsOf}
use Rattle.worked_rows.proofs.steps.steps.Given as goal

abbrev pub invariant-loop-word : goal.invariant-loop-word
invariant-loop-word l = IsOf l.automaton l.config
