use Rattle.ta_smt.proofs.Texts.{script_same}
use Rattle.ta_smt.proofs.laws.scripts_are_determined.Goals as goal

pub returns : goal.returns
returns c = script_same
