use Rattle.ta_revised.proofs.PivotsKeep.{pivots_keep}
use Rattle.ta_revised.proofs.laws.pivots_keep_revised.Goals as goal

pub returns : goal.returns
returns c = pivots_keep
