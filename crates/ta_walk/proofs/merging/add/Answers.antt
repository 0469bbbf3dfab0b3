use Rattle.ta_walk.proofs.Common.{◌++◌, sym, subst, TreeEnd, PartVisited, beginning, Element}
use Rattle.ta_walk.proofs.PartsMerged.{merged_parts}
use Rattle.ta_walk.proofs.merging.add.Goals as goal

pub returns-clause-visited : goal.returns-clause-visited
returns-clause-visited g c = λ s ws vs later begun late one other fresh.
    let keeps = g.K.Keeper.keeps in
    let n = c.args.nodes in
    subst (λ (e : TreeEnd Element). PartVisited keeps (beginning s (ws ++ vs)) n begun c.append.new.self e) (sym c.end_behind.ensures.is)
    (merged_parts keeps g.K.PartKeeper.begins s ws vs n later c.args.count c.args.leaves begun late c.args.keeper c.args.second.keeper c.append.new.self
    c.args.second.end one other fresh c.in_ok-append.ensures)
