use Rattle.ta_program.proofs.Common.{◌<◌, arith, length, nat_lt, ltb-false, ltb-true, subject_of}
use Rattle.ta_program.proofs.PiecesJudged.{no_read, turn, turn_refused}
use Rattle.ta_program.proofs.check.judge_piece.Goals as goal

pub returns-in-Ok-clause-turn : goal.returns-in-Ok-clause-turn
returns-in-Ok-clause-turn g c = λ first text j place.
    let buffer = c.read_piece.new.buf in
    let some : 0 < length c.read_piece.new.buf = omega (arith, c.requires.room, c.read_piece.auto.buf) in
    turn (subject_of c.args.checker.now) (g.S.Shelf.files c.args.shelf.now) c.args.name.now text buffer c.args.at c.in-Ok.count first
    (g.S.Shelf.calls c.args.shelf.now) (g.S.Shelf.calls c.read_piece.new.shelf) c.args.checker.now c.feed_piece.new.checker j place some
    c.in-Ok.ensures.count c.in-Ok.ensures.bytes c.in-Ok.ensures.log
    (nat_lt c.in-Ok.count (length buffer)) (ltb-true c.in-Ok.count (length buffer)) (ltb-false c.in-Ok.count (length buffer)) c.feed_piece.result
    (c.feed_piece.ensures.fed text j.stands place)

pub returns-in-Ok-clause-cause : goal.returns-in-Ok-clause-cause
returns-in-Ok-clause-cause g c = no_read c.feed_piece.result (g.S.Shelf.faults c.args.shelf.now) (g.S.Shelf.faults c.read_piece.new.shelf)
    c.feed_piece.ensures.cause c.in-Ok.ensures.cause

pub returns-in-Err-clause-turn : goal.returns-in-Err-clause-turn
returns-in-Err-clause-turn g c = λ first text j place.
    turn_refused (subject_of c.args.checker.now) (g.S.Shelf.files c.args.shelf.now) c.args.name.now text c.read_piece.new.buf c.args.at first
    (g.S.Shelf.calls c.args.shelf.now) (g.S.Shelf.calls c.read_piece.new.shelf) c.args.checker.now c.args.checker.now c.in-Err.fault c.unread.result j place
    c.in-Err.ensures.bytes c.in-Err.ensures.log c.unread.ensures
