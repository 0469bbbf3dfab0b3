use Rattle.ta_moments.proofs.Wholes.{cone_runs}
use Rattle.ta_moments.proofs.run_laws.vertices_of_cones_become_runs.Goals as goal

pub returns : goal.returns
returns c = cone_runs
