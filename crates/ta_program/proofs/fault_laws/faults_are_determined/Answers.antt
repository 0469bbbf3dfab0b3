use Rattle.ta_search.proofs.OneFault.{one_fault}
use Rattle.ta_program.proofs.FaultsOnce.{certificate_once, long_once, run_once, values_once}
use Rattle.ta_program.proofs.fault_laws.faults_are_determined.Goals as goal

pub returns-clause-file : goal.returns-clause-file
returns-clause-file c = c.meanings_are_unique.ensures.first_faults

pub returns-clause-certificate : goal.returns-clause-certificate
returns-clause-certificate c = certificate_once

pub returns-clause-replayed : goal.returns-clause-replayed
returns-clause-replayed c = run_once

pub returns-clause-compressed : goal.returns-clause-compressed
returns-clause-compressed c = long_once

pub returns-clause-values : goal.returns-clause-values
returns-clause-values c = values_once

pub returns-clause-template : goal.returns-clause-template
returns-clause-template c = λ l. one_fault
