use Rattle.ta_walk.proofs.Common.{ℕ, ◌+◌, ◌≤◌, [], ◌∷◌, ◌++◌, ◌∙◌, length, sym, ap, subst, arith, Cursor, here, NodeAt, leaf_count}
use Rattle.ta_walk.proofs.LeavesCounted.{leaves_below, leaves_more}
use Rattle.ta_walk.proofs.NodesCounted.{rose_next}
use Rattle.ta_walk.proofs.WalkSoFar.{walk_few, walk_goes, walk_refutes}
use Rattle.ta_walk.proofs.walking.visit_tree_along.Goals as goal

pub solve_node-requires-clause-few : goal.solve_node-requires-clause-few
solve_node-requires-clause-few g c κs within =
    let l = c.loop-before in
    let done : l.before ≤ c.args.nodes = omega arith in
    let limit = c.requires.limit in
    let few = walk_few (g.T.Tree.search c.args.tree.now) l.place l.before l.invariant.found c.requires.roots l.invariant.walked in
    subst (λ (d : Cursor _). length d.bounds.items ≤ 1000000000) (sym c.cursor-in-loop-before.ensures) (omega arith)

pub leaves_with-leaves-requires : goal.leaves_with-leaves-requires
leaves_with-leaves-requires g c =
    let l = c.loop-before in
    leaves_below l.invariant.found l.before l.leaves c.args.nodes l.invariant.counted l.invariant.walked.counted (omega arith) c.requires.limit

pub returns-then-not-more-clause-ends : goal.returns-then-not-more-clause-ends
returns-then-not-more-clause-ends g c =
    let s = g.T.Tree.search c.args.tree.now in
    let l = c.loop-before in
    let n = c.in-Inner.node in
    let within : l.before + 1 ≤ c.args.nodes = omega arith in
    let stands = subst (λ (d : Cursor _). NodeAt s (here d) n) c.cursor-in-loop-before.ensures (rw c.in-Inner.is at c.in_ok-kind.ensures.solved) in
    let ends = rw c.if-not-more.true at c.in_ok-more-in-Inner.ensures in
    record {
      nodes = l.invariant.found ++ n ∷ [];
      is = walk_refutes s l.place c.go_on.new.place l.before c.args.nodes l.invariant.found n l.invariant.walked stands ends within;
      counted = c.leaves_with-leaves.ensures ∙ ap (λ (k : ℕ). k + leaf_count (n ∷ [])) l.invariant.counted ∙ sym (leaves_more l.invariant.found n);
      kept = c.in_ok-take-in-Inner.ensures c.args.keeper.now l.invariant.found l.invariant.keeps;
    }

pub loop-before-preserved : goal.loop-before-preserved
loop-before-preserved g c =
    let s = g.T.Tree.search c.args.tree.now in
    let l = c.loop-before in
    let n = c.in-Inner.node in
    let stands = subst (λ (d : Cursor _). NodeAt s (here d) n) c.cursor-in-loop-before.ensures (rw c.in-Inner.is at c.in_ok-kind.ensures.solved) in
    let goes = rw c.if-not-more.false at c.in_ok-more-in-Inner.ensures in
    record {
      found = l.invariant.found ++ n ∷ [];
      walked = walk_goes s l.place c.go_on.new.place l.before l.invariant.found n l.invariant.walked stands goes;
      counted = c.leaves_with-leaves.ensures ∙ ap (λ (k : ℕ). k + leaf_count (n ∷ [])) l.invariant.counted ∙ sym (leaves_more l.invariant.found n);
      keeps = c.in_ok-take-in-Inner.ensures c.args.keeper.now l.invariant.found l.invariant.keeps;
      kept = c.in_ok-next.ensures.kept;
      branch = rw c.in-Inner.is at c.in_ok-kind.ensures.branch;
      begun = rose_next c.args.work.now.begun l.before l.work.begun c.solve_node.new.work.begun l.invariant.begun c.in_ok-kind.ensures.counted;
    }
