use Rattle.ta_encode.proofs.CursorCommon.{◌+◌, ◌∷◌, refl, ap, arith, length, drop, sym, subst, parts, Cursor, Within, here, node_of}
use Rattle.std.proofs.result.Match.{err_is}
use Rattle.ta_encode.proofs.FramesParts.{one_comes, none_comes, no_memory}
use Rattle.ta_encode.proofs.FramesLeft.{inside_moved, passed_over}
use Rattle.ta_encode.proofs.cursor.Cursor.leave.Goals as goal

pub frames-init : goal.frames-init
frames-init g c = λ words inside. inside_moved (g.T.Tree.search c.args.tree.now) c.args.self.now _ words inside
    (record { start = refl; word = refl; bounds = refl; frames = refl })

pub pop_frame-requires : goal.pop_frame-requires
pop_frame-requires g c = (g.T.Tree.search c.args.tree.now, (c.requires.0, c.frames.invariant c.requires.0 c.requires.1))

pub enter_next-requires-clause-within : goal.enter_next-requires-clause-within
enter_next-requires-clause-within g c =
    let back = c.in-Some.ensures (g.T.Tree.search c.args.tree.now) c.requires.0 (c.frames.invariant c.requires.0 c.requires.1) in
    (here c.pop_frame.new.self ∷ back.0, back.2)

pub enter_next-requires-clause-split : goal.enter_next-requires-clause-split
enter_next-requires-clause-split g c =
    let back = c.in-Some.ensures (g.T.Tree.search c.args.tree.now) c.requires.0 (c.frames.invariant c.requires.0 c.requires.1) in
    back.3

pub returns-in_err-enter_next : goal.returns-in_err-enter_next
returns-in_err-enter_next g c = λ words inside. rw (err_is c.from_residual.result _ c.from_residual.ensures.1)
    (no_memory (g.T.Tree.search c.args.tree.now) c.enter_next.new.self words _)

pub returns-then-branch : goal.returns-then-branch
returns-then-branch g c = λ words inside.
    let s = g.T.Tree.search c.args.tree.now in
    let between = c.pop_frame.new.self in
    let back = c.in-Some.ensures s words (c.frames.invariant words inside) in
    let told = rw c.if-branch.true at (c.in_ok-enter_next.ensures (here between) back.0 back.2) in
    one_comes s _ words (subst (Within s _) (sym back.1) told)

pub frames-smaller : goal.frames-smaller
frames-smaller g c =
    let s = g.T.Tree.search c.args.tree.now in
    let between = c.pop_frame.new.self in
    let back = c.in-Some.ensures s c.requires.0 (c.frames.invariant c.requires.0 c.requires.1) in
    let told = rw c.if-branch.false at (c.in_ok-enter_next.ensures (here between) back.0 back.2) in
    let less = back.4 in
    omega (arith, ap (λ (d : Cursor g.row.F.Denot). length d.frames.items) told.1)

pub frames-preserved : goal.frames-preserved
frames-preserved g c = λ words inside.
    let s = g.T.Tree.search c.args.tree.now in
    let between = c.pop_frame.new.self in
    let f = c.in-Some.frame in
    let back = c.in-Some.ensures s words (c.frames.invariant words inside) in
    let over = rw c.if-branch.false at (c.in_ok-enter_next.ensures (here between) back.0 back.2) in
    passed_over s between _ words (drop (f.next + 1) (parts s (here between) (node_of f.inner))) back.0 back.1 over.0 over.1 back.2

pub returns : goal.returns
returns g c = λ words inside.
    let s = g.T.Tree.search c.args.tree.now in
    none_comes s _ words (c.in_default.ensures s words (c.frames.invariant words inside))
