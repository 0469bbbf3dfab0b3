use Rattle.ta_encode.proofs.Common.{IsLeaf}
use Rattle.ta_encode.proofs.Preorders.{in_order, determined}
use Rattle.ta_encode.proofs.laws.proofs_read_in_order.Goals as goal

pub returns-clause-in_order : goal.returns-clause-in_order
returns-clause-in_order g c = in_order IsLeaf

pub returns-clause-determined : goal.returns-clause-determined
returns-clause-determined g c = determined
