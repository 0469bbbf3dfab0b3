use Rattle.ta_witness.proofs.Resting.{solutions_solve}
use Rattle.ta_witness.proofs.rest_laws.rest_solutions_solve.Goals as goal

pub returns : goal.returns
returns c = solutions_solve
