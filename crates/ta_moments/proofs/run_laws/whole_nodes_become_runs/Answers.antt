use Rattle.ta_moments.proofs.Short.{short_runs}
use Rattle.ta_moments.proofs.Wholes.{whole_of_file, whole_runs}
use Rattle.ta_moments.proofs.run_laws.whole_nodes_become_runs.Goals as goal

pub returns-clause-runs : goal.returns-clause-runs
returns-clause-runs c = whole_runs

pub returns-clause-of_files : goal.returns-clause-of_files
returns-clause-of_files c = whole_of_file

pub returns-clause-short : goal.returns-clause-short
returns-clause-short c = short_runs
