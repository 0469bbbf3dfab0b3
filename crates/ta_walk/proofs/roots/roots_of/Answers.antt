use Rattle.ta_walk.proofs.Common.{◌≡◌, ℕ, ◌<◌, ◌^◌, length, slice_get, Some, None, sym, subst, rules, root_node}
use Rattle.ta_walk.proofs.RootsListed.{Listed, all_listed, listed_more, root_comes}
use Rattle.ta_walk.proofs.roots.roots_of.Goals as goal

pub roots-preserved : goal.roots-preserved
roots-preserved g c =
    let s = g.T.Tree.search c.args.tree.now in
    let items = c.roots.roots.items in
    let root = c.in-Some.root in
    let n : c.len.result ≡ length items = search rules in
    let at = subst (λ (k : ℕ). slice_get s.roots k ≡ Some (root_node root)) n c.in-Some.ensures.is in
    let small = subst (λ (k : ℕ). k < 2 ^ 31) n c.in-Some.ensures.small in
    subst (Listed s s.roots) (sym c.in_ok-push.ensures.items)
    (listed_more s s.roots items root c.roots.invariant at (root_comes s c.len.result root c.in-Some.ensures) small)

pub returns-clause-nodes : goal.returns-clause-nodes
returns-clause-nodes g c =
    let s = g.T.Tree.search c.args.tree.now in
    let items = c.roots.roots.items in
    let n : c.len.result ≡ length items = search rules in
    all_listed s s.roots items c.roots.invariant (subst (λ (k : ℕ). slice_get s.roots k ≡ None) n c.in_default.ensures)
