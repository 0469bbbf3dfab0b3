use Rattle.ta_verdict.proofs.rest.RestsSolved.{found_solved}
use Rattle.ta_verdict.proofs.rest.laws.rests_are_solved.Goals as goal

pub returns : goal.returns
returns c = found_solved
