use Rattle.ta_check.proofs.Lasting.{lasting_faults_last}
use Rattle.ta_check.proofs.laws.lasting_faults_last.Goals as goal

pub returns : goal.returns
returns c = lasting_faults_last
