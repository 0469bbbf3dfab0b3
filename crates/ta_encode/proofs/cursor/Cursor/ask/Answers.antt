use Rattle.ta_encode.proofs.CursorCommon.{sym, subst, Cursor, Inside, Within, here}
use Rattle.ta_encode.proofs.cursor.Cursor.ask.Goals as goal

pub leave-requires : goal.leave-requires
leave-requires g c =
    let s = g.T.Tree.search c.args.tree.now in
    let old = c.args.self.now in
    let within = c.requires.1 in
    let told = rw c.if-branch.false at (c.in_ok-enter_child.ensures (here old) within.words (subst (Within s old) within.left within)) in
    (within.words, subst (λ (d : Cursor g.row.F.Denot). Inside s d within.words) (sym told.1) within.inside)
