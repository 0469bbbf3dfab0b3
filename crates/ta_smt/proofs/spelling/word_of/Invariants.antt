use Rattle.ta_smt.proofs.Spelled.{Spells}
use Rattle.ta_smt.proofs.spelling.word_of.Given as goal

abbrev pub invariant-loop-element : goal.invariant-loop-element
invariant-loop-element l = Spells l.fn.task.automaton.now l.fn.task.pattern.now l.fn.start_mask l.elements l.element-index l.word
