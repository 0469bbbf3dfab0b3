use Rattle.std.proofs.Common.{subst, sym}
use Rattle.ta_automaton.specs.Narrow.{IsNarrow}
use Rattle.ta_words.proofs.narrow_task.NarrowTask.of.Goals as goal

pub invariant_of-result : goal.invariant_of-result
invariant_of-result c = record { over = c.of-task.result.over; narrow = subst IsNarrow (sym c.of-task.ensures.automaton) c.requires.narrow }
