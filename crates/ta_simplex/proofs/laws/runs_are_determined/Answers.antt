use Rattle.ta_simplex.proofs.RunLemmas.{reached_same, ends_once}
use Rattle.ta_simplex.proofs.laws.runs_are_determined.Goals as goal

pub returns : goal.returns
returns c = record { same = reached_same; once = ends_once }
