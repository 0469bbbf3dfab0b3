use Rattle.ta_walk.proofs.ConesDecided.{cones_decided}
use Rattle.ta_walk.proofs.FiniteTrees.{budgets_suffice}
use Rattle.ta_walk.proofs.NoneSplit.{none_split}
use Rattle.ta_walk.proofs.moment_laws.moments_decide_cones.Goals as goal

pub returns-clause-split : goal.returns-clause-split
returns-clause-split c = none_split c.questions_may_be_asked.ensures

pub returns-clause-spent : goal.returns-clause-spent
returns-clause-spent c = budgets_suffice c.questions_may_be_asked.ensures

pub returns-clause-ends : goal.returns-clause-ends
returns-clause-ends c = cones_decided c.questions_may_be_asked.ensures
