use Rattle.ta_walk.proofs.Passes.{Passed, passes_left}
use Rattle.ta_walk.proofs.forked.visit.Given as goal

abbrev pub invariant-passes : goal.invariant-passes
invariant-passes g l = Passed l.patient l.nodes l.fn.keeper l.keeper l.fn.work.begun l.work.begun

abbrev pub decreases-passes : goal.decreases-passes
decreases-passes g l = passes_left l.patient
