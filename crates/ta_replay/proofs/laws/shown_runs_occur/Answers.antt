use Rattle.ta_replay.proofs.Occurring.{shown_occurs}
use Rattle.ta_replay.proofs.laws.shown_runs_occur.Goals as goal

pub returns : goal.returns
returns c = shown_occurs
