use Rattle.ta_walk.proofs.Common.{refl}
use Rattle.ta_walk.proofs.forking.frontier_at.Goals as goal

pub returns-clause-cursor : goal.returns-clause-cursor
returns-clause-cursor g c = refl

pub returns-clause-kept : goal.returns-clause-kept
returns-clause-kept g c = c.nothing.ensures

pub returns-clause-branch : goal.returns-clause-branch
returns-clause-branch g c = c.new.ensures c.nothing.result.system.rows
