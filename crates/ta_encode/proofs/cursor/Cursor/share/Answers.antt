use Rattle.ta_encode.proofs.CursorCommon.{◌≡◌, ◌+◌, ◌∙◌, [], ap, arith, drop, reverse, subst, sym, take, Cursor, IsBeforeWords, IsWithin, all_behind}
use Rattle.ta_encode.proofs.FramesShared.{shared, unshared}
use Rattle.ta_encode.proofs.cursor.Cursor.share.Goals as goal

pub behind-requires-clause-within : goal.behind-requires-clause-within
behind-requires-clause-within g c = subst (IsWithin (g.T.Tree.search c.args.tree.now)) (sym c.loop-outer.invariant.kept) c.requires

pub loop-outer-preserved : goal.loop-outer-preserved
loop-outer-preserved g c =
    let s = g.T.Tree.search c.args.tree.now in
    let k = c.loop-outer.outer + 1 in
    let kept = c.loop-outer.invariant.kept in
    let none = rw c.in_default.is at c.in_ok-later.ensures in
    record {
      kept = kept;
      none = subst (λ (d : Cursor g.row.F.Denot). all_behind s d (reverse (take k d.frames.items)) ≡ []) kept none;
    }

pub returns-in-Some : goal.returns-in-Some
returns-in-Some g c =
    let s = g.T.Tree.search c.args.tree.now in
    let k = c.loop-outer.outer + 1 in
    let kept = c.loop-outer.invariant.kept in
    let is = rw c.in-Some.is at c.in_ok-later.ensures in
    let before = subst (λ (d : Cursor g.row.F.Denot). IsBeforeWords s (all_behind s d (reverse (take k d.frames.items))) c.in-Some.later) kept is in
    shared s c.args.self.now _ c.in-Some.later c.loop-outer.outer c.requires.0 c.requires.1 (record {
      start = ap (λ (d : Cursor g.row.F.Denot). d.start) kept;
      word = ap (λ (d : Cursor g.row.F.Denot). d.facts.items) kept;
      bounds = ap (λ (d : Cursor g.row.F.Denot). d.bounds.items) kept;
      frames = c.in_ok-self.ensures.tail ∙ ap (λ (d : Cursor g.row.F.Denot). drop k d.frames.items) kept;
    }) c.loop-outer.invariant.none before

pub returns : goal.returns
returns g c = unshared (g.T.Tree.search c.args.tree.now) c.args.self.now _ c.loop-outer.outer c.loop-outer.invariant.kept c.loop-outer.invariant.none
    (omega arith)
