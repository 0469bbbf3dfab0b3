use Rattle.ta_walk.proofs.ProofsMade.{refuted_hold}
use Rattle.ta_walk.proofs.laws.refuted_claims_hold.Goals as goal

pub returns : goal.returns
returns c = refuted_hold
