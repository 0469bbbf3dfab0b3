use Rattle.ta_encode.proofs.Common.{length}
use Rattle.ta_encode.proofs.FramesLeft.{Leaving}
use Rattle.ta_encode.proofs.cursor.Cursor.leave.Given as goal

abbrev pub invariant-frames : goal.invariant-frames
invariant-frames g l = Leaving (g.T.Tree.search l.tree) l.fn.self l.self

abbrev pub decreases-frames : goal.decreases-frames
decreases-frames g l = length l.self.frames.items
