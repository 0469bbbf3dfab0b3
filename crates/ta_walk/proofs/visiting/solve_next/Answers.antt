use Rattle.ta_walk.proofs.Common.{sym, subst}
use Rattle.ta_encode.specs.Marks.{SameRows}
use Rattle.ta_walk.proofs.visiting.solve_next.Goals as goal

pub grow-requires-clause-kept : goal.grow-requires-clause-kept
grow-requires-clause-kept g c = subst (g.T.Tree.is_kept c.args.tree.now) (sym c.replace-last.ensures.value) c.requires.kept

pub solve_node-requires-clause-branch : goal.solve_node-requires-clause-branch
solve_node-requires-clause-branch g c κs within =
    let system_of = g.T.Tree.system_of in
    let written = c.in_ok-next.field-0 in
    let same = subst (λ k. SameRows (system_of k).rows written.same (system_of written.kept).rows) c.replace-last.ensures.value c.in_ok-next.ensures.same in
    record { before = (system_of c.args.kept.now).rows; branch = c.requires.branch; within = same.within; rows_are = same.rows_are }
