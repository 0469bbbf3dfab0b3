use Rattle.ta_encode.proofs.CursorCommon.{◌≡◌, [], reverse, take, all_behind}
use Rattle.ta_encode.proofs.cursor.Cursor.share.Given as goal

abbrev pub invariant-loop-outer : goal.invariant-loop-outer
invariant-loop-outer g l = record {
  kept : l.self ≡ l.fn.self;
  none : all_behind (g.T.Tree.search l.tree) l.fn.self (reverse (take l.outer l.fn.self.frames.items)) ≡ [];
}
