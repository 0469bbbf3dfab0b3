use Rattle.ta_encode.proofs.Theorems.{safety}
use Rattle.ta_encode.proofs.laws.proofs_show_safety.Goals as goal

pub returns : goal.returns
returns c = safety
