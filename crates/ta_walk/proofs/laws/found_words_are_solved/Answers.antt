use Rattle.ta_walk.proofs.WordsSolved.{found_solved}
use Rattle.ta_walk.proofs.laws.found_words_are_solved.Goals as goal

pub returns : goal.returns
returns c = found_solved
