use Rattle.ta_moment_tree.proofs.Common.{sym, subst, Vector, below, VectorSpeaks, SmallVector}
use Rattle.ta_moment_tree.proofs.Adding.{adds_same}
use Rattle.ta_moment_tree.proofs.order.push_order_of.Goals as goal

pub push_below-requires-clause-beneath : goal.push_below-requires-clause-beneath
push_below-requires-clause-beneath c = subst (λ (v : Vector). SmallVector 3 v) (sym c.late-beneath.ensures) c.requires.first

pub push_below-requires-clause-above : goal.push_below-requires-clause-above
push_below-requires-clause-above c = subst (λ (v : Vector). SmallVector 3 v) (sym c.early-above.ensures) c.requires.second

pub returns : goal.returns
returns c n h k =
    let t = c.args.plan.now.task in
    adds_same _ _ _ _ (λ i. below t.automaton.now t.pattern.now n (c.late-beneath.ensures i) (c.early-above.ensures i))
    (c.in_ok-push_below.ensures n (subst (λ (v : Vector). VectorSpeaks n v) (sym c.late-beneath.ensures) h)
    (subst (λ (v : Vector). VectorSpeaks n v) (sym c.early-above.ensures) k))
