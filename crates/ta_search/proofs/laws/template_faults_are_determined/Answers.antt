use Rattle.ta_search.proofs.OneFault.{no_fault, one_fault}
use Rattle.ta_search.proofs.laws.template_faults_are_determined.Goals as goal

pub returns : goal.returns
returns c = (no_fault, one_fault)
