use Rattle.ta_verdict.proofs.rest.RestSaid.{claims, runs_show}
use Rattle.ta_verdict.proofs.rest.laws.rest_verdicts_are_told.Goals as goal

pub returns-clause-safe : goal.returns-clause-safe
returns-clause-safe c = claims

pub returns-clause-runs : goal.returns-clause-runs
returns-clause-runs c = runs_show
