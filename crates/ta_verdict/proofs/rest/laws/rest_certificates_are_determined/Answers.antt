use Rattle.ta_verdict.proofs.rest.CertificatesOnce.{rest_certificates_once}
use Rattle.ta_verdict.proofs.rest.laws.rest_certificates_are_determined.Goals as goal

pub returns : goal.returns
returns c = rest_certificates_once
