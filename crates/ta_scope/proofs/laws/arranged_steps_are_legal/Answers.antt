use Rattle.ta_scope.proofs.ArrangedLaws.{arranged_legal, arranged_end}
use Rattle.ta_scope.proofs.Arranging.{arranged_within}
use Rattle.ta_scope.proofs.laws.arranged_steps_are_legal.Goals as goal

pub returns-clause-until_the_last : goal.returns-clause-until_the_last
returns-clause-until_the_last c = arranged_legal

pub returns-clause-at_the_end : goal.returns-clause-at_the_end
returns-clause-at_the_end c = arranged_end

pub returns-clause-within : goal.returns-clause-within
returns-clause-within c = arranged_within
