use Rattle.ta_meaning.proofs.TableFaults.{faults_are_of_the_table}
use Rattle.ta_meaning.proofs.offset_law.faults_are_of_the_table.Goals as goal

pub returns : goal.returns
returns c = faults_are_of_the_table
