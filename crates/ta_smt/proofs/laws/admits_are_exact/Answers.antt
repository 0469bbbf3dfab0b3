use Rattle.ta_smt.proofs.Admitted.{admits_are_exact}
use Rattle.ta_smt.proofs.laws.admits_are_exact.Goals as goal

pub returns : goal.returns
returns c = admits_are_exact
