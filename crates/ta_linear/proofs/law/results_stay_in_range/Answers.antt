use Rattle.ta_linear.proofs.TermLemmas.{sum-stays, multiple-stays, negation-stays}
use Rattle.ta_linear.proofs.law.results_stay_in_range.Goals as goal

pub returns-clause-sums : goal.returns-clause-sums
returns-clause-sums c = sum-stays

pub returns-clause-multiples : goal.returns-clause-multiples
returns-clause-multiples c = multiple-stays

pub returns-clause-negations : goal.returns-clause-negations
returns-clause-negations c = negation-stays
