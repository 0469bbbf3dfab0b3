use Rattle.ta_meaning.proofs.Common.{drop, kinds_of}
use Rattle.ta_meaning.proofs.GuardReading.{GuardsReading}
use Rattle.ta_meaning.proofs.guards.number_guards.Given as goal

abbrev pub invariant-loop-comparison : goal.invariant-loop-comparison
invariant-loop-comparison l = GuardsReading l.limits (kinds_of l.places) l.fn.guards l.guards l.comparisons (drop l.comparison-index l.comparisons) l.masks
