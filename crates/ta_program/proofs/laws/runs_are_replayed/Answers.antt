use Rattle.ta_program.proofs.RunsReplayed.{admitted_replayed, compressed_replayed, rest_runs_replayed, runs_replayed}
use Rattle.ta_program.proofs.laws.runs_are_replayed.Goals as goal

pub returns-clause-verify : goal.returns-clause-verify
returns-clause-verify c = runs_replayed

pub returns-clause-rest : goal.returns-clause-rest
returns-clause-rest c = rest_runs_replayed

pub returns-clause-admit : goal.returns-clause-admit
returns-clause-admit c = admitted_replayed

pub returns-clause-compress : goal.returns-clause-compress
returns-clause-compress c = compressed_replayed
