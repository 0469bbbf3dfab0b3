use Rattle.ta_dense.proofs.Common.{◌≡◌, take, map, raised}
use Rattle.ta_dense.proofs.extending.raised_old.Given as goal

abbrev pub invariant-loop-variable : goal.invariant-loop-variable
invariant-loop-variable l = l.columns.items ≡ map (raised l.unknowns l.new) (take l.variable-index l.non_basic)
