use Rattle.ta_rest.proofs.Deciding.{rest_stuck}
use Rattle.ta_rest.proofs.quiet_laws.quiet_rest_is_stuck.Goals as goal

pub returns : goal.returns
returns c = rest_stuck
