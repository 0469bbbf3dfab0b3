use Rattle.ta_walk.proofs.Common.{◌≡◌, ◌∙◌, ℕ, ℤ, List, Some, reverse, slice_get, refl, sym, subst, IfOk-weaker, Pattern, Comes, Search, candidate_of, Fact}
use Rattle.ta_walk.proofs.Common.{MomentEncoding, EncodesSomeWhole, IsKeptAt, moment_maker, asking_of, search_of_moments, NodeOf, WholeNode, EndsIn, EndsAtNode}
use Rattle.ta_walk.proofs.Common.{MomentEnd}
use Rattle.std.proofs.lemmas.Option.{same_Some}
use Rattle.ta_base.proofs.Lists.{some_at}
use Rattle.ta_moments.specs.Refutes.{Asking}
use Rattle.ta_moment_tree.specs.Makers.{moments_of}
use Rattle.ta_moment_tree.specs.Trees.{IsAt}
use Rattle.ta_walk.proofs.EndsShown.{Limited, comes_there, encodes_some, ends_there, lost_at, same_search, tree_end}
use Rattle.ta_walk.proofs.NodesMade.{roots_unbounded}
use Rattle.ta_walk.specs.declared.end.TreeEnd.TheVariants as tree
use Rattle.ta_walk.proofs.moment_visiting.visit_moments.Goals as goal

pub visit_tree-requires-clause-roots : goal.visit_tree-requires-clause-roots
visit_tree-requires-clause-roots g c κs within =
    let t = c.new-tree.result in
    roots_unbounded t.task.automaton.now t.task.pattern.now (asking_of t) (moment_maker t.task.automaton.now t.task.pattern.now (asking_of t))

pub node_again-requires : goal.node_again-requires
node_again-requires g c =
    let t = c.new-tree.result in
    let file = c.args.scoped.now.file in
    let number = c.args.number in
    let rest = c.args.rest in
    let silent = c.args.silent.now in
    let asking : Asking = record { rest = rest; silent = silent } in
    let end = c.in-Found in
    let own = some_at file.patterns number c.requires.exists in
    let s = moments_of file.automaton own.0 asking in
    let same : search_of_moments t ≡ s =
    same_search t file number rest silent c.new-tree.ensures.search c.new-tree.ensures.asking asking refl refl own.0 own.1 in
    let found : NodeOf s c.args.nodes end.count (WholeNode s end.start end.facts end.values) =
    tree_end (search_of_moments t) s c.args.nodes (g.K.Keeper.keeps c.args.keeper.now c.visit_tree.new.keeper) c.in_ok-count.field-0
    (tree.Found end.count end.start end.facts end.values) same end.is c.in_ok-count.ensures in
    let comes = comes_there c.no_question_leaves_nothing.ensures c.questions_may_be_asked.ensures file number own.0 own.1 asking
    c.args.nodes end.count end.start end.facts end.values found in
    subst (λ (r : Search Fact). Comes r end.start (reverse c.as_slice-in-Found.result.now)) (sym same)
    (subst (λ (facts : List Fact). Comes s end.start (reverse facts)) (sym c.as_slice-in-Found.ensures) comes)

pub end_at-requires : goal.end_at-requires
end_at-requires g c =
    let t = c.new-tree.result in
    let file = c.args.scoped.now.file in
    let number = c.args.number in
    let rest = c.args.rest in
    let silent = c.args.silent.now in
    let asking : Asking = record { rest = rest; silent = silent } in
    let end = c.in-Found in
    let kept = c.in_ok-kept-in-Found.kept in
    let own = some_at file.patterns number c.requires.exists in
    let s = moments_of file.automaton own.0 asking in
    let same : search_of_moments t ≡ s =
    same_search t file number rest silent c.new-tree.ensures.search c.new-tree.ensures.asking asking refl refl own.0 own.1 in
    let found : NodeOf s c.args.nodes end.count (WholeNode s end.start end.facts end.values) =
    tree_end (search_of_moments t) s c.args.nodes (g.K.Keeper.keeps c.args.keeper.now c.visit_tree.new.keeper) c.in_ok-count.field-0
    (tree.Found end.count end.start end.facts end.values) same end.is c.in_ok-count.ensures in
    let limited : Limited end.values = subst Limited c.as_slice.ensures c.read_all.ensures in
    let there : IsAt t end.start (reverse c.as_slice-in-Found.result.now) kept = c.in_ok-kept-in-Found.ensures in
    let at : IsKeptAt file.automaton own.0 silent (candidate_of end.start) (reverse end.facts) kept =
    subst (λ (facts : List Fact). IsKeptAt file.automaton own.0 silent (candidate_of end.start) (reverse facts) kept) c.as_slice-in-Found.ensures
    ((c.new-tree.ensures.at own.0 own.1 end.start (reverse c.as_slice-in-Found.result.now) kept).0 there) in
    λ node is. subst (EncodesSomeWhole file number node) (sym c.as_slice-in-Found-2.ensures)
    (encodes_some c.no_question_leaves_nothing.ensures c.questions_may_be_asked.ensures file number own.0 own.1 asking
    c.args.nodes end.count end.start end.facts end.values found limited kept at node is)

pub returns-in-Refuted-clause-ends : goal.returns-in-Refuted-clause-ends
returns-in-Refuted-clause-ends g c = λ asking rest silent p named.
    let t = c.new-tree.result in
    let file = c.args.scoped.now.file in
    let s = moments_of file.automaton p asking in
    let same : search_of_moments t ≡ s =
    same_search t file c.args.number c.args.rest c.args.silent.now c.new-tree.ensures.search c.new-tree.ensures.asking asking rest silent p named in
    tree_end (search_of_moments t) s c.args.nodes (g.K.Keeper.keeps c.args.keeper.now c.visit_tree.new.keeper) c.in_ok-count.field-0
    (tree.Refuted c.in-Refuted.count c.in-Refuted.leaves) same c.in-Refuted.is c.in_ok-count.ensures

pub returns-in_ok-kept-in-Found-clause-ends : goal.returns-in_ok-kept-in-Found-clause-ends
returns-in_ok-kept-in-Found-clause-ends g c = λ asking rest silent.
    let t = c.new-tree.result in
    let file = c.args.scoped.now.file in
    let number = c.args.number in
    let end = c.in-Found in
    let kept = c.in_ok-kept-in-Found.kept in
    let Keeps = g.K.Keeper.keeps c.args.keeper.now c.visit_tree.new.keeper in
    let there : IsAt t end.start (reverse c.as_slice-in-Found.result.now) kept = c.in_ok-kept-in-Found.ensures in
    let limited : Limited end.values = subst Limited c.as_slice.ensures c.read_all.ensures in
    let at : (p : Pattern) → slice_get file.patterns number ≡ Some p
    → IsKeptAt file.automaton p asking.silent (candidate_of end.start) (reverse end.facts) kept =
    (λ p named. subst (λ (places : List ℕ). IsKeptAt file.automaton p places (candidate_of end.start) (reverse end.facts) kept) (sym silent)
    (subst (λ (facts : List Fact). IsKeptAt file.automaton p c.args.silent.now (candidate_of end.start) (reverse facts) kept) c.as_slice-in-Found.ensures
    ((c.new-tree.ensures.at p named end.start (reverse c.as_slice-in-Found.result.now) kept).0 there))) in
    let own = some_at file.patterns number c.requires.exists in
    let first = at own.0 own.1 in
    IfOk-weaker c.end_at.result (EndsAtNode file number first.node c.as_slice-in-Found-2.result.now end.count)
    (λ (e : MomentEnd). (p : Pattern) → slice_get file.patterns number ≡ Some p
    → EndsIn (moments_of file.automaton p asking) file number asking c.args.nodes Keeps e)
    (λ e h p named. (
    let s = moments_of file.automaton p asking in
    let same : search_of_moments t ≡ s =
    same_search t file number c.args.rest c.args.silent.now c.new-tree.ensures.search c.new-tree.ensures.asking asking rest silent p named in
    let found : NodeOf s c.args.nodes end.count (WholeNode s end.start end.facts end.values) =
    tree_end (search_of_moments t) s c.args.nodes Keeps c.in_ok-count.field-0 (tree.Found end.count end.start end.facts end.values)
    same end.is c.in_ok-count.ensures in
    let here : EndsAtNode file number first.node end.values end.count e =
    subst (λ (zs : List ℤ). EndsAtNode file number first.node zs end.count e) c.as_slice-in-Found-2.ensures h in
    ends_there c.no_question_leaves_nothing.ensures c.questions_may_be_asked.ensures file number p named asking
    c.args.nodes end.count end.start end.facts end.values found limited kept (at p named) Keeps e
    (λ encoding is. subst (λ (node : MomentEncoding). EndsAtNode file number node end.values end.count e)
    (same_Some first.node encoding (sym first.is ∙ is)) here)))
    (c.end_at.ensures.ends first.node first.is)

pub returns-in-Spent-clause-ends : goal.returns-in-Spent-clause-ends
returns-in-Spent-clause-ends g c = λ asking rest silent p named.
    let t = c.new-tree.result in
    let file = c.args.scoped.now.file in
    let s = moments_of file.automaton p asking in
    let same : search_of_moments t ≡ s =
    same_search t file c.args.number c.args.rest c.args.silent.now c.new-tree.ensures.search c.new-tree.ensures.asking asking rest silent p named in
    tree_end (search_of_moments t) s c.args.nodes (g.K.Keeper.keeps c.args.keeper.now c.visit_tree.new.keeper) c.in_ok-count.field-0
    (tree.Spent c.in-Spent.count) same c.in-Spent.is c.in_ok-count.ensures

pub returns-in-Overflow-clause-ends : goal.returns-in-Overflow-clause-ends
returns-in-Overflow-clause-ends g c = λ asking rest silent p named.
    let t = c.new-tree.result in
    let file = c.args.scoped.now.file in
    let s = moments_of file.automaton p asking in
    let same : search_of_moments t ≡ s =
    same_search t file c.args.number c.args.rest c.args.silent.now c.new-tree.ensures.search c.new-tree.ensures.asking asking rest silent p named in
    let left = tree_end (search_of_moments t) s c.args.nodes (g.K.Keeper.keeps c.args.keeper.now c.visit_tree.new.keeper) c.in_ok-count.field-0
    (tree.Overflow c.in-Overflow.node c.in-Overflow.kind) same c.in-Overflow.is c.in_ok-count.ensures in
    lost_at s file c.args.number asking c.args.nodes c.in-Overflow.node c.in-Overflow.kind left
