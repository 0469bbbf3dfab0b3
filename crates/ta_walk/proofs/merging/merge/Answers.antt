use Rattle.ta_walk.proofs.Common.{ℕ, ◌+◌, IfOk, arith, subst, sym, TreeEnd, IsCounted, PartVisited, RoseBy, beginning, behind, Element}
use Rattle.ta_walk.proofs.NodesCounted.{counted_both, counted_first, ok_both}
use Rattle.ta_walk.proofs.PartsMerged.{decided_part}
use Rattle.ta_walk.proofs.merging.merge.Goals as goal

pub returns-in_default-clause-visited : goal.returns-in_default-clause-visited
returns-in_default-clause-visited g c = λ s ws vs begun late one other fresh.
    decided_part g.K.Keeper.keeps s ws vs c.args.nodes begun c.args.first.keeper c.args.first.end c.in_default.ensures.none one

pub returns-clause-visited : goal.returns-clause-visited
returns-clause-visited g c = λ s ws vs begun late one other fresh.
    let n = c.args.nodes in
    let refuted = subst (λ (e : TreeEnd Element). PartVisited g.K.Keeper.keeps (beginning s ws) n begun c.args.first.keeper e) c.in-Some.ensures.some one in
    c.add.ensures.visited s ws vs n begun late refuted other fresh

pub returns-clause-whole : goal.returns-clause-whole
returns-clause-whole g c = λ first second. c.add.ensures.whole c.args.nodes (omega arith) second

pub returns-in_default-clause-counted : goal.returns-in_default-clause-counted
returns-in_default-clause-counted g c = λ low high one other.
    counted_first c.args.nodes low high c.args.first.end c.args.second.end c.args.first.begun c.args.second.begun c.saturating_add.result c.requires.limit one
    other c.saturating_add.ensures

pub returns-clause-counted : goal.returns-clause-counted
returns-clause-counted g c = λ low high one other.
    let n = c.args.nodes in
    let refuted = subst (λ (e : TreeEnd Element). IsCounted n low e c.args.first.begun) c.in-Some.ensures.some one in
    ok_both c.add.result _ _ (λ whole. IsCounted n (low + high + 1) whole.end whole.begun)
    (λ whole is rose. subst (λ (e : TreeEnd Element). IsCounted n (low + high + 1) e whole.begun) (sym is)
    (counted_both n low high c.in-Some.count c.in-Some.leaves c.args.second.end c.args.first.begun c.args.second.begun whole.begun c.requires.limit refuted
    other rose))
    c.add.ensures.end c.add.ensures.begun
