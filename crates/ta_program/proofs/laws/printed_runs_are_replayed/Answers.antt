use Rattle.ta_program.proofs.RunsReplayed.{runs_replayed}
use Rattle.ta_program.proofs.laws.printed_runs_are_replayed.Goals as goal

pub returns : goal.returns
returns c = runs_replayed
