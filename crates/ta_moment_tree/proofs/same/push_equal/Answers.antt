use Rattle.ta_moment_tree.proofs.Adding.{adds_both}
use Rattle.ta_moment_tree.proofs.same.push_equal.Goals as goal

pub returns : goal.returns
returns c n h k = adds_both _ _ _ _ _ (c.in_ok-push_below.ensures n h k) (c.in_ok-push_below-2.ensures n k h)
