use Rattle.ta_verdict.proofs.SamplesMade.{samples_once}
use Rattle.ta_verdict.proofs.VerdictsOnce.{verdicts_once}
use Rattle.ta_verdict.proofs.laws.verdicts_are_determined.Goals as goal

pub returns-clause-verdicts : goal.returns-clause-verdicts
returns-clause-verdicts c = verdicts_once

pub returns-clause-samples : goal.returns-clause-samples
returns-clause-samples c = samples_once
