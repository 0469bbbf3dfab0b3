use Rattle.ta_encode.proofs.Theorems.{runs, these_run}
use Rattle.ta_encode.proofs.laws.solutions_become_runs.Goals as goal

pub returns-clause-these : goal.returns-clause-these
returns-clause-these c = these_run

pub returns-clause-some : goal.returns-clause-some
returns-clause-some c = runs
