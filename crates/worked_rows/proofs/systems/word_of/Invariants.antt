use Rattle.std.proofs.Common.{reverse}
use Rattle.ta_words.specs.Words.{LegalWord}
use Rattle.worked_rows.proofs.systems.word_of.Given as goal

abbrev pub invariant-loop-name : goal.invariant-loop-name
invariant-loop-name l = LegalWord l.task.automaton.now l.task.pattern.now l.start_mask (reverse l.word)
