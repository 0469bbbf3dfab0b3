use Rattle.ta_walk.proofs.Common.{◌≡◌, ◌++◌, List, Node, left_at, IsBranch, RoseBy, leaf_count}
use Rattle.ta_walk.proofs.WordSoFar.{WordSoFar}
use Rattle.ta_walk.proofs.visiting.visit_stretch.Given as goal

abbrev pub invariant-loop-before : goal.invariant-loop-before
invariant-loop-before g l = record {
  found : List Node;
  walked : WordSoFar (g.T.Tree.search l.tree) (left_at (g.T.Tree.search l.tree) l.fn.at.cursor) l.at.cursor l.before found;
  counted : l.leaves ≡ leaf_count found;
  keeps : (first : g.row.K.Denot) (before : List Node) → g.K.Keeper.keeps first l.fn.keeper before → g.K.Keeper.keeps first l.keeper (before ++ found);
  kept : g.T.Tree.is_kept l.tree l.at.kept;
  branch : IsBranch g.D.Dictionary.tableau g.D.Dictionary.pivot_of (g.T.Tree.system_of l.at.kept).rows l.at.branch;
  begun : RoseBy l.fn.work.begun l.before l.work.begun;
}
