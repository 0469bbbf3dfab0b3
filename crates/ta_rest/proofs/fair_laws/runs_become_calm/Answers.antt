use Rattle.ta_rest.proofs.Coming.{become_calm, calm_runs_rest}
use Rattle.ta_rest.proofs.fair_laws.runs_become_calm.Goals as goal

pub returns-clause-never : goal.returns-clause-never
returns-clause-never c = become_calm

pub returns-clause-rest : goal.returns-clause-rest
returns-clause-rest c = calm_runs_rest
