use Rattle.ta_moments.proofs.Cones.{none_positive, scaled_left, scaled_met}
use Rattle.ta_moments.proofs.Solving.{none_in_systems}
use Rattle.ta_moments.proofs.laws.scaled_values_meet_cones.Goals as goal

pub returns-clause-constants : goal.returns-clause-constants
returns-clause-constants c = none_positive

pub returns-clause-scaled : goal.returns-clause-scaled
returns-clause-scaled c = scaled_met

pub returns-clause-questions : goal.returns-clause-questions
returns-clause-questions c = scaled_left

pub returns-clause-systems : goal.returns-clause-systems
returns-clause-systems c = none_in_systems
