use Rattle.ta_rest.proofs.QuietExample.{quiet_alone}
use Rattle.ta_rest.proofs.QuietResting.{stronger, weaker}
use Rattle.ta_rest.proofs.quiet_laws.quiet_rest_is_weaker.Goals as goal

pub returns-clause-each : goal.returns-clause-each
returns-clause-each c = weaker

pub returns-clause-safe : goal.returns-clause-safe
returns-clause-safe c = stronger

pub returns-clause-some : goal.returns-clause-some
returns-clause-some c = quiet_alone
