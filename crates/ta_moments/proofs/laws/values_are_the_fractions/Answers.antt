use Rattle.ta_moments.proofs.Fractions.{denominators_least, values_fractions, whole_values}
use Rattle.ta_moments.proofs.laws.values_are_the_fractions.Goals as goal

pub returns-clause-least : goal.returns-clause-least
returns-clause-least c = denominators_least

pub returns-clause-values : goal.returns-clause-values
returns-clause-values c = values_fractions

pub returns-clause-whole : goal.returns-clause-whole
returns-clause-whole c = whole_values
