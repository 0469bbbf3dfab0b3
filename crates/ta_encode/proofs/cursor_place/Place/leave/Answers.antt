use Rattle.ta_encode.proofs.Common.{◌+◌, drop}
use Rattle.ta_encode.proofs.TreesLeft.{at_here, tree_goes_on, tree_ends}
use Rattle.ta_encode.proofs.cursor_place.Place.leave.Goals as goal

pub returns-then-branch : goal.returns-then-branch
returns-then-branch g c = λ w words all.
    let s = g.T.Tree.search c.args.tree.now in
    let old = c.args.self.now in
    let at = at_here s old w words all in
    let told = rw c.if-branch.true at (c.in_ok-leave.ensures at.rest at.inside) in
    tree_goes_on s (record { cursor = c.leave.new.self; root = old.root }) at.rest words told all.small at.others

pub returns-else-branch : goal.returns-else-branch
returns-else-branch g c = λ w words all.
    let s = g.T.Tree.search c.args.tree.now in
    let old = c.args.self.now in
    let at = at_here s old w words all in
    let told = rw c.if-branch.false at (c.in_ok-leave.ensures at.rest at.inside) in
    tree_ends s c.leave.new.self c.next_root.new.self at.rest words (drop (old.root + 1) s.roots) c.next_root.result told at.others c.next_root.ensures
