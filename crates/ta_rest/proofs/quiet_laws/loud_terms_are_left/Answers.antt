use Rattle.ta_rest.proofs.QuietResting.{loud_left}
use Rattle.ta_rest.proofs.quiet_laws.loud_terms_are_left.Goals as goal

pub returns : goal.returns
returns c = loud_left
