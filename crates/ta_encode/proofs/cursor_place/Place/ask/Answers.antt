use Rattle.ta_encode.proofs.CursorCommon.{◌+◌, ◌++◌, drop, ask_node, parts, here_at}
use Rattle.ta_encode.proofs.TreesLeft.{at_here, parts_first, tree_goes_on, tree_ends}
use Rattle.ta_encode.proofs.cursor_place.Place.ask.Goals as goal

pub returns-then-branch : goal.returns-then-branch
returns-then-branch g c = λ w words all.
    let s = g.T.Tree.search c.args.tree.now in
    let old = c.args.self.now in
    let at = at_here s old w words all in
    let told = rw c.if-branch.true at (c.in_ok-ask.ensures (here_at old) at.rest at.within) in
    tree_goes_on s (record { cursor = c.ask.new.self; root = old.root }) (parts s (here_at old) (ask_node c.args.ask) ++ at.rest)
    (parts s w (ask_node c.args.ask) ++ words) told all.small (parts_first s old w words (ask_node c.args.ask) at)

pub returns-else-branch : goal.returns-else-branch
returns-else-branch g c = λ w words all.
    let s = g.T.Tree.search c.args.tree.now in
    let old = c.args.self.now in
    let at = at_here s old w words all in
    let told = rw c.if-branch.false at (c.in_ok-ask.ensures (here_at old) at.rest at.within) in
    tree_ends s c.ask.new.self c.next_root.new.self (parts s (here_at old) (ask_node c.args.ask) ++ at.rest) (parts s w (ask_node c.args.ask) ++ words)
    (drop (old.root + 1) s.roots) c.next_root.result told (parts_first s old w words (ask_node c.args.ask) at) c.next_root.ensures
