-- the laws of revised dictionaries, all of them
use Rattle.ta_revised.proofs.Common.{IsAssignment}
use Rattle.ta_revised.specs.Laws.{RevisedLaws}
use Rattle.ta_revised.proofs.Units.{IsDictionaryRow-unit, IsRevised-first}
use Rattle.ta_revised.proofs.PivotsKeep.{pivots_keep}
use Rattle.ta_revised.proofs.ModestBounds.{merges_in_range, modest_bound, modest_stay}
use Rattle.ta_revised.proofs.RowsRevised.{rows_revised}
use Rattle.ta_revised.proofs.NegativeLeaves.{negatives_leave}

pub revised_laws : RevisedLaws
revised_laws = record {
  slacks = IsRevised-first;
  negatives = negatives_leave;
  rows = rows_revised;
  pivots = pivots_keep;
  stay = modest_stay rows_revised;
  units = λ s. IsDictionaryRow-unit (IsAssignment s);
  bounded = modest_bound rows_revised;
  merge = merges_in_range;
}
