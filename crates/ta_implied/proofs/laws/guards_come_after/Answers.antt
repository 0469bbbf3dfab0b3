use Rattle.ta_implied.proofs.Implying.{leaves_imply, guards_come_after}
use Rattle.ta_implied.proofs.laws.guards_come_after.Goals as goal

pub returns-clause-one : goal.returns-clause-one
returns-clause-one c = leaves_imply

pub returns-clause-chain : goal.returns-clause-chain
returns-clause-chain c = guards_come_after
