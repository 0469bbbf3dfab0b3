use Rattle.ta_smt.proofs.WordsNamed.{whole_exact, words_exact}
use Rattle.ta_smt.proofs.laws.words_are_exact.Goals as goal

pub returns-clause-words : goal.returns-clause-words
returns-clause-words c = words_exact

pub returns-clause-whole : goal.returns-clause-whole
returns-clause-whole c = whole_exact
