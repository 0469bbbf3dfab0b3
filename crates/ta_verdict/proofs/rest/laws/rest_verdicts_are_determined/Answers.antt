use Rattle.ta_verdict.proofs.rest.VerdictsOnce.{verdicts_once}
use Rattle.ta_verdict.proofs.rest.laws.rest_verdicts_are_determined.Goals as goal

pub returns : goal.returns
returns c = verdicts_once
