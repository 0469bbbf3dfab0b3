use Rattle.ta_walk.proofs.Common.{◌∙◌, List, reverse, rules, subst, sym, FitsSigned, w128, to_z-of_z, VertexAt, node_at, Comes, Bound}
use Rattle.ta_walk.proofs.VertexTaken.{as_read, asks_at, scaled_at, split_at, whole_at}
use Rattle.ta_walk.proofs.node.take_vertex.Goals as goal

pub question-requires-clause-comes : goal.question-requires-clause-comes
question-requires-clause-comes g c =
    let d = c.args.cursor.now in
    as_read (λ k fs. Comes (g.T.Tree.search c.args.tree.now) k (reverse fs)) c.start-start.result d.start c.facts-facts.result.now d.facts.items
    c.start-start.ensures c.facts-facts.ensures c.requires.word.comes

pub question-requires-clause-at : goal.question-requires-clause-at
question-requires-clause-at g c =
    let d = c.args.cursor.now in
    as_read (λ k fs. g.T.Tree.is_at c.args.tree.now k (reverse fs) c.args.kept.now) c.start-start.result d.start c.facts-facts.result.now d.facts.items
    c.start-start.ensures c.facts-facts.ensures c.requires.at

pub question-requires-clause-vertex : goal.question-requires-clause-vertex
question-requires-clause-vertex g c =
    let d = c.args.cursor.now in (
      d.bounds.items,
      as_read (λ k fs. VertexAt (g.T.Tree.search c.args.tree.now) (node_at k fs d.bounds.items) c.args.values.now) c.start-start.result d.start
          c.facts-facts.result.now d.facts.items c.start-start.ensures c.facts-facts.ensures c.requires.vertex,
    )

pub returns-in-Some : goal.returns-in-Some
returns-in-Some g c =
    asks_at (g.T.Tree.search c.args.tree.now) c.args.cursor.now c.start-start.result c.facts-facts.result.now c.args.values.now c.start-start.ensures
    c.facts-facts.ensures c.requires.vertex c.in-Some.ask c.asking.result (rw c.in-Some.is at c.in_ok-ask.ensures) c.asking.ensures

pub whole_values-requires : goal.whole_values-requires
whole_values-requires g c = c.in_default-first_split.ensures.none

pub returns-in_default-first_split : goal.returns-in_default-first_split
returns-in_default-first_split g c =
    whole_at (g.T.Tree.search c.args.tree.now) c.args.cursor.now c.start-start.result c.facts-facts.result.now c.args.values.now c.start-start.ensures
    c.facts-facts.ensures c.requires.vertex c.in_ok-whole_values.field-0 (rw c.in_default.is at c.in_ok-ask.ensures) c.in_ok-whole_values.ensures

pub scaled-requires-clause-comes : goal.scaled-requires-clause-comes
scaled-requires-clause-comes g c =
    let d = c.args.cursor.now in
    as_read (λ k fs. Comes (g.T.Tree.search c.args.tree.now) k (reverse fs)) c.start-start.result d.start c.facts-facts.result.now d.facts.items
    c.start-start.ensures c.facts-facts.ensures c.requires.word.comes

pub scaled-requires-clause-at : goal.scaled-requires-clause-at
scaled-requires-clause-at g c =
    let d = c.args.cursor.now in
    as_read (λ k fs. g.T.Tree.is_at c.args.tree.now k (reverse fs) c.args.kept.now) c.start-start.result d.start c.facts-facts.result.now d.facts.items
    c.start-start.ensures c.facts-facts.ensures c.requires.at

pub scaled-requires-clause-vertex : goal.scaled-requires-clause-vertex
scaled-requires-clause-vertex g c =
    let s = g.T.Tree.search c.args.tree.now in
    let d = c.args.cursor.now in
    as_read (λ k fs. VertexAt s (node_at k fs c.bounds.result.now) c.args.values.now) c.start-start.result d.start c.facts-facts.result.now d.facts.items
    c.start-start.ensures c.facts-facts.ensures
    (subst (λ (bs : List Bound). VertexAt s (node_at d.start d.facts.items bs) c.args.values.now) (sym c.bounds.ensures) c.requires.vertex)

pub scaled-requires-clause-settled : goal.scaled-requires-clause-settled
scaled-requires-clause-settled g c = rw c.in_default.is at c.in_ok-ask.ensures

pub returns-in-Some-2 : goal.returns-in-Some-2
returns-in-Some-2 g c =
    scaled_at (g.T.Tree.search c.args.tree.now) c.args.cursor.now c.start-start.result c.facts-facts.result.now c.args.values.now c.start-start.ensures
    c.facts-facts.ensures c.requires.vertex c.bounds.result.now c.in-Some-2.numbers _ _ c.bounds.ensures (rw c.in_default.is at c.in_ok-ask.ensures)
    c.in-Some-first_split.ensures.some (sym c.in-Some-2.is ∙ c.in_ok-numbers.ensures)

pub returns-in-None : goal.returns-in-None
returns-in-None g c =
    let fits : FitsSigned w128 c.in-Some-first_split.floor = search rules in
    simp to_z-of_z
    (split_at (g.T.Tree.search c.args.tree.now) c.args.cursor.now c.start-start.result c.facts-facts.result.now c.args.values.now c.start-start.ensures
    c.facts-facts.ensures c.requires.vertex c.bounds.result.now c.in-Some-first_split.unknown c.in-Some-first_split.floor c.bounds.ensures
    (rw c.in_default.is at c.in_ok-ask.ensures) c.in-Some-first_split.ensures.some (sym c.in-None.is ∙ c.in_ok-numbers.ensures))
