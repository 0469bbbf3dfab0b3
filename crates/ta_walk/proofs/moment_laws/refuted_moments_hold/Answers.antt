use Rattle.ta_walk.proofs.NodesMade.{refuted_hold, refuted_rest_hold}
use Rattle.ta_walk.proofs.moment_laws.refuted_moments_hold.Goals as goal

pub returns-clause-safe : goal.returns-clause-safe
returns-clause-safe c = refuted_hold

pub returns-clause-rest : goal.returns-clause-rest
returns-clause-rest c = refuted_rest_hold
