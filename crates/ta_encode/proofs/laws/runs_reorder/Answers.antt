use Rattle.ta_encode.proofs.Theorems.{reorder, reorder_to}
use Rattle.ta_encode.proofs.laws.runs_reorder.Goals as goal

pub returns-clause-word : goal.returns-clause-word
returns-clause-word c = reorder

pub returns-clause-end : goal.returns-clause-end
returns-clause-end c = reorder_to
