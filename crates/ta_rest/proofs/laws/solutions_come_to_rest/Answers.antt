use Rattle.ta_rest.proofs.Solutions.{steps_rest, some_rests, ends_rest}
use Rattle.ta_rest.proofs.laws.solutions_come_to_rest.Goals as goal

pub returns-clause-these : goal.returns-clause-these
returns-clause-these c = steps_rest

pub returns-clause-some : goal.returns-clause-some
returns-clause-some c = some_rests

pub returns-clause-ends : goal.returns-clause-ends
returns-clause-ends c = ends_rest
