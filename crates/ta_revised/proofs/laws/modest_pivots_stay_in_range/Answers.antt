use Rattle.ta_revised.proofs.RowsRevised.{rows_revised}
use Rattle.ta_revised.proofs.ModestBounds.{modest_stay}
use Rattle.ta_revised.proofs.laws.modest_pivots_stay_in_range.Goals as goal

pub returns : goal.returns
returns c = modest_stay rows_revised
