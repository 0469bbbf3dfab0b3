use Rattle.ta_moment_tree.proofs.Common.{take, AddsForms, bound_forms}
use Rattle.ta_moment_tree.proofs.system.push_bounds.Given as goal

abbrev pub invariant-loop-bound : goal.invariant-loop-bound
invariant-loop-bound l = AddsForms (bound_forms (take l.bound-index l.bounds)) l.fn.rows.items l.rows.items
