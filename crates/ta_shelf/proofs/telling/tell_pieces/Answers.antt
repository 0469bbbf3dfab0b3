use Rattle.ta_shelf.proofs.Pieces.{tells_cut, tells_whole, written_more}
use Rattle.ta_shelf.proofs.telling.tell_pieces.Goals as goal

pub returns-in-Err : goal.returns-in-Err
returns-in-Err g c = tells_cut _ c.loop-piece.piece-index _ _ _ _ c.in-Err.field-0 c.loop-piece.invariant c.loop-piece-test.true c.in-Err.ensures.adds
    c.in-Err.ensures.cause

pub loop-piece-preserved : goal.loop-piece-preserved
loop-piece-preserved g c = written_more _ c.loop-piece.piece-index _ _ _ _ c.loop-piece.invariant c.loop-piece-test.true c.in-Ok.ensures.adds
    c.in-Ok.ensures.cause

pub returns : goal.returns
returns g c = tells_whole _ c.loop-piece.piece-index _ _ c.loop-piece.invariant c.loop-piece-test.false c.loop-piece.auto.piece-index-end
