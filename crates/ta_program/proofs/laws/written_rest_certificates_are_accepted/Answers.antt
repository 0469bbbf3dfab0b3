use Rattle.ta_program.proofs.AcceptedAtRest.{written_at_rest_is_accepted}
use Rattle.ta_program.proofs.laws.written_rest_certificates_are_accepted.Goals as goal

pub returns : goal.returns
returns c = written_at_rest_is_accepted
