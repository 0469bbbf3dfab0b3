use Rattle.ta_compress.proofs.Once.{refusals_once}
use Rattle.ta_compress.proofs.laws.refusals_are_determined.Goals as goal

pub returns : goal.returns
returns c = refusals_once
