use Rattle.ta_verdict.proofs.CertificatesOnce.{certificates_once}
use Rattle.ta_verdict.proofs.laws.certificates_are_determined.Goals as goal

pub returns : goal.returns
returns c = certificates_once
