use Rattle.ta_report.proofs.CheckSayings.{proofs_read, told_proved}
use Rattle.ta_report.proofs.laws.proofs_tell.Goals as goal

pub returns-clause-proved : goal.returns-clause-proved
returns-clause-proved c = told_proved

pub returns-clause-read : goal.returns-clause-read
returns-clause-read c = proofs_read
