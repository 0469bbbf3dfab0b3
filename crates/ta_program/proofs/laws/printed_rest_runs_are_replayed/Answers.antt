use Rattle.ta_program.proofs.RunsReplayed.{rest_runs_replayed}
use Rattle.ta_program.proofs.laws.printed_rest_runs_are_replayed.Goals as goal

pub returns : goal.returns
returns c = rest_runs_replayed
