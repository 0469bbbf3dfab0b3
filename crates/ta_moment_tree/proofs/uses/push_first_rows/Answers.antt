use Rattle.ta_moment_tree.proofs.Common.{arith}
use Rattle.ta_moment_tree.proofs.Adding.{adds_both}
use Rattle.ta_moment_tree.proofs.Beginning.{vector_more_small}
use Rattle.ta_moment_tree.proofs.uses.push_first_rows.Goals as goal

pub push_counters-requires-clause-vector : goal.push_counters-requires-clause-vector
push_counters-requires-clause-vector c = vector_more_small 1 3 _ (omega arith) c.requires.vector

pub push_guard-requires-clause-vector : goal.push_guard-requires-clause-vector
push_guard-requires-clause-vector c = vector_more_small 1 3 _ (omega arith) c.requires.vector

pub push_below-requires-clause-beneath : goal.push_below-requires-clause-beneath
push_below-requires-clause-beneath c = vector_more_small 1 3 _ (omega arith) c.requires.vector

pub push_below-requires-clause-above : goal.push_below-requires-clause-above
push_below-requires-clause-above c = vector_more_small 1 3 _ (omega arith) c.requires.end

pub returns : goal.returns
returns c n h k = adds_both _ _ _ _ _ c.in_ok-push_counters.ensures (adds_both _ _ _ _ _ c.in_ok-push_guard.ensures (c.in_ok-push_below.ensures n h k))
