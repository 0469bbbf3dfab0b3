use Rattle.ta_replay.proofs.Once.{refusals_once}
use Rattle.ta_replay.proofs.laws.refusals_are_determined.Goals as goal

pub returns : goal.returns
returns c = refusals_once
