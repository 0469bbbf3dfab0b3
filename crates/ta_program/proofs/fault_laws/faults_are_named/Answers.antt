use Rattle.ta_program.proofs.FaultsNamed.{faults_named}
use Rattle.ta_program.proofs.fault_laws.faults_are_named.Goals as goal

pub returns : goal.returns
returns c = faults_named c.meanings_are_unique.ensures.first_faults
