use Rattle.ta_simplex.proofs.Common.{ListsSlots}
use Rattle.ta_simplex.proofs.multipliers.terms_of.Given as goal

abbrev pub invariant-loop-row : goal.invariant-loop-row
invariant-loop-row l = ListsSlots l.multipliers l.row l.terms.items
