use Rattle.ta_rest.proofs.QuietResting.{quiet_endings}
use Rattle.ta_rest.proofs.quiet_laws.endings_quiet_rest_alike.Goals as goal

pub returns : goal.returns
returns c = quiet_endings
