use Rattle.ta_simplex.proofs.FewMultipliers.{few_multipliers}
use Rattle.ta_simplex.proofs.laws.multipliers_are_few.Goals as goal

pub returns : goal.returns
returns c = few_multipliers
