use Rattle.ta_linear.proofs.RangeSum.{value_of-sum, value_of-multiple, RowHolds-negation}
use Rattle.ta_linear.proofs.law.values_follow.Goals as goal

pub returns-clause-sums : goal.returns-clause-sums
returns-clause-sums c = value_of-sum

pub returns-clause-multiples : goal.returns-clause-multiples
returns-clause-multiples c = value_of-multiple

pub returns-clause-negated : goal.returns-clause-negated
returns-clause-negated c = RowHolds-negation
