use Rattle.ta_encode.proofs.CursorCommon.{reverse, take, all_behind}
use Rattle.ta_encode.proofs.FramesShared.{before_words, no_words}
use Rattle.ta_encode.proofs.cursor.Cursor.behind.Goals as goal

pub returns-then-branch : goal.returns-then-branch
returns-then-branch g c =
    let s = g.T.Tree.search c.args.tree.now in
    let cursor = c.args.self.now in
    let words = all_behind s cursor (reverse (take c.args.outer cursor.frames.items)) in
    before_words s c.leave.new.self words (rw c.if-branch.true at (c.in_ok-leave.ensures words (c.in_ok-later.ensures s c.requires.within)))

pub returns-else-branch : goal.returns-else-branch
returns-else-branch g c =
    let s = g.T.Tree.search c.args.tree.now in
    let cursor = c.args.self.now in
    let words = all_behind s cursor (reverse (take c.args.outer cursor.frames.items)) in
    no_words s c.leave.new.self words (rw c.if-branch.false at (c.in_ok-leave.ensures words (c.in_ok-later.ensures s c.requires.within)))
