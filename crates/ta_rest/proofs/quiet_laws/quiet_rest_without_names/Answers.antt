use Rattle.ta_rest.proofs.QuietResting.{rest_is, rest_safe_is}
use Rattle.ta_rest.proofs.quiet_laws.quiet_rest_without_names.Goals as goal

pub returns-clause-each : goal.returns-clause-each
returns-clause-each c = rest_is

pub returns-clause-safe : goal.returns-clause-safe
returns-clause-safe c = rest_safe_is
