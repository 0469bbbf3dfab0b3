use Rattle.ta_dense.proofs.EqualRows.{equal_never_leaves}
use Rattle.ta_dense.proofs.laws.equal_rows_never_leave.Goals as goal

pub returns : goal.returns
returns c = λ s t before rest between after r k d rows again leaves same. equal_never_leaves s t before rest between after r k d rows again leaves same
