use Rattle.ta_rest.proofs.Coming.{fair_files_rest, fair_runs_rest}
use Rattle.ta_rest.proofs.fair_laws.fair_runs_come_to_rest.Goals as goal

pub returns-clause-each : goal.returns-clause-each
returns-clause-each c = fair_runs_rest

pub returns-clause-files : goal.returns-clause-files
returns-clause-files c = fair_files_rest
