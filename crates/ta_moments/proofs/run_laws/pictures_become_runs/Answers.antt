use Rattle.ta_moments.proofs.Pictures.{picture_runs}
use Rattle.ta_moments.proofs.run_laws.pictures_become_runs.Goals as goal

pub returns : goal.returns
returns c = picture_runs
