use Rattle.ta_check.proofs.Accepting.{certificates_show}
use Rattle.ta_check.proofs.laws.certificates_show.Goals as goal

pub returns : goal.returns
returns c = certificates_show
