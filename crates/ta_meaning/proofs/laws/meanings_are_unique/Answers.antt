use Rattle.ta_meaning.proofs.OneTree.{one_tree, one_meaning, one_meant}
use Rattle.ta_meaning.proofs.OneFault.{one_fault}
use Rattle.ta_meaning.proofs.laws.meanings_are_unique.Goals as goal

pub returns-clause-trees : goal.returns-clause-trees
returns-clause-trees c = one_tree

pub returns-clause-faults : goal.returns-clause-faults
returns-clause-faults c = one_meaning

pub returns-clause-files : goal.returns-clause-files
returns-clause-files c = one_meant

pub returns-clause-first_faults : goal.returns-clause-first_faults
returns-clause-first_faults c = one_fault
