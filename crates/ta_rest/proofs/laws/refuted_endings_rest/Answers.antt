use Rattle.ta_rest.proofs.Resting.{refuted_rests, refuted_show}
use Rattle.ta_rest.proofs.laws.refuted_endings_rest.Goals as goal

pub returns-clause-own : goal.returns-clause-own
returns-clause-own c = refuted_rests

pub returns-clause-show : goal.returns-clause-show
returns-clause-show c = refuted_show
