use Rattle.ta_rest.proofs.ClaimsShown.{proofs_show}
use Rattle.ta_rest.proofs.claim_laws.proofs_show_claims.Goals as goal

pub returns : goal.returns
returns c = proofs_show
