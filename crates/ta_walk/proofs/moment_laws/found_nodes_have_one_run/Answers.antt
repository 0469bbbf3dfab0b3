use Rattle.ta_walk.proofs.RunsOnce.{runs_once}
use Rattle.ta_walk.proofs.moment_laws.found_nodes_have_one_run.Goals as goal

pub returns : goal.returns
returns c = runs_once
