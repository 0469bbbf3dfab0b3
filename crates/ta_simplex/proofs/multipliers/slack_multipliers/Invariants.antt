use Rattle.ta_simplex.proofs.Common.{length}
use Rattle.ta_simplex.proofs.SlotLemmas.{Filled}
use Rattle.ta_simplex.proofs.multipliers.slack_multipliers.Given as goal

abbrev pub invariant-loop-column : goal.invariant-loop-column
invariant-loop-column g l = Filled l.system.unknowns (length l.system.rows) (g.D.Dictionary.tableau l.dictionary) l.row l.column l.multipliers.items
