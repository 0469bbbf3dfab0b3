use Rattle.ta_check.proofs.Accepting.{claims_hold}
use Rattle.ta_check.proofs.laws.claims_hold.Goals as goal

pub returns : goal.returns
returns c = claims_hold
