use Rattle.ta_walk.proofs.Common.{◌≡◌, List, Node, IsBranch, RoseBy, leaf_count}
use Rattle.ta_walk.proofs.WalkSoFar.{WalkSoFar}
use Rattle.ta_walk.proofs.walking.visit_tree_along.Given as goal

abbrev pub invariant-loop-before : goal.invariant-loop-before
invariant-loop-before g l = record {
  found : List Node;
  walked : WalkSoFar (g.T.Tree.search l.tree) l.place l.before found;
  counted : l.leaves ≡ leaf_count found;
  keeps : g.K.Keeper.keeps l.fn.keeper l.keeper found;
  kept : g.T.Tree.is_kept l.tree l.kept;
  branch : IsBranch g.D.Dictionary.tableau g.D.Dictionary.pivot_of (g.T.Tree.system_of l.kept).rows l.branch;
  begun : RoseBy l.fn.work.begun l.before l.work.begun;
}
