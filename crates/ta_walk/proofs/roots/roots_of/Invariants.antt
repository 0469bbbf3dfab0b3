use Rattle.ta_walk.proofs.Common.{◌-◌, length, vec_len}
use Rattle.ta_walk.proofs.RootsListed.{Listed}
use Rattle.ta_walk.proofs.roots.roots_of.Given as goal

abbrev pub invariant-roots : goal.invariant-roots
invariant-roots g l = Listed (g.T.Tree.search l.tree) (g.T.Tree.search l.tree).roots l.roots.items

abbrev pub decreases-roots : goal.decreases-roots
decreases-roots g l = length (g.T.Tree.search l.tree).roots - vec_len l.roots
