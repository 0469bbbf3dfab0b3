use Rattle.ta_revised.proofs.RowsRevised.{rows_revised}
use Rattle.ta_revised.proofs.laws.rows_are_revised.Goals as goal

pub returns : goal.returns
returns c = rows_revised
