use Rattle.ta_encode.proofs.Theorems.{no_solution}
use Rattle.ta_encode.proofs.laws.proofs_leave_no_solution.Goals as goal

pub returns : goal.returns
returns c = no_solution
