use Rattle.ta_check.proofs.Accepting.{one_list}
use Rattle.ta_check.proofs.laws.certificates_name_one_list.Goals as goal

pub returns : goal.returns
returns c = one_list
