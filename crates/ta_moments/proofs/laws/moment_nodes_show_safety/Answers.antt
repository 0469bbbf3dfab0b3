use Rattle.ta_moments.proofs.Certifying.{fair_nodes_show, nodes_show, rest_nodes_show, rest_nodes_show_so}
use Rattle.ta_moments.proofs.laws.moment_nodes_show_safety.Goals as goal

pub returns-clause-runs : goal.returns-clause-runs
returns-clause-runs c = nodes_show

pub returns-clause-rest : goal.returns-clause-rest
returns-clause-rest c = rest_nodes_show_so

pub returns-clause-ending : goal.returns-clause-ending
returns-clause-ending c = rest_nodes_show

pub returns-clause-fair : goal.returns-clause-fair
returns-clause-fair c = fair_nodes_show
