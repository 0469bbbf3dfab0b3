use Rattle.ta_program.proofs.Accepted.{written_is_accepted}
use Rattle.ta_program.proofs.laws.written_certificates_are_accepted.Goals as goal

pub returns : goal.returns
returns c = written_is_accepted
