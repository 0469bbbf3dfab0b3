use Rattle.ta_program.proofs.AcceptedFound.{found_is_accepted}
use Rattle.ta_program.proofs.laws.found_certificates_are_accepted.Goals as goal

pub returns : goal.returns
returns c = found_is_accepted
