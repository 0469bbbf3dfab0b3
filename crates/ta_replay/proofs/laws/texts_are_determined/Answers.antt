use Rattle.ta_replay.proofs.Once.{texts_once}
use Rattle.ta_replay.proofs.laws.texts_are_determined.Goals as goal

pub returns : goal.returns
returns c = texts_once
