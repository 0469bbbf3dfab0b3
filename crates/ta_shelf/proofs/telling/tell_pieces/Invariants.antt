use Rattle.ta_shelf.proofs.Pieces.{Written}
use Rattle.ta_shelf.proofs.telling.tell_pieces.Given as goal

abbrev pub invariant-loop-piece : goal.invariant-loop-piece
invariant-loop-piece g l =
    Written l.pieces l.piece-index
    (record { written = g.E.Sink.written l.fn.err; faults = g.E.Sink.faults l.fn.err; stalls = g.E.Sink.stalls l.fn.err })
    (record { written = g.E.Sink.written l.err; faults = g.E.Sink.faults l.err; stalls = g.E.Sink.stalls l.err })
