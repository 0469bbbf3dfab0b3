use Rattle.ta_program.proofs.Common.{◌≡◌, ◌-◌, inl, inr, length, min, rules, piece_size, longer_than, subject_of, CERTIFICATE}
use Rattle.ta_program.proofs.PiecesJudged.{fault_only, passes_limit, piece_allowed, piece_breaks, says_only}
use Rattle.ta_program.proofs.check.feed_piece.Goals as goal

pub returns-then-allowed-piece-clause-fed : goal.returns-then-allowed-piece-clause-fed
returns-then-allowed-piece-clause-fed c = λ text stands place.
    let part : c.min-allowed.result ≡ min (length c.args.piece.now) (CERTIFICATE.bytes - c.args.at) = search rules in
    inr (inl (passes_limit (subject_of c.args.checker.now) c.args.name.now text c.args.piece.now c.args.at c.min-allowed.result c.feed.new.self place
    c.requires.within part c.too_long.result c.if-allowed-piece.true (c.in-Ok.ensures.exact text stands) c.too_long.ensures))

pub returns-then-ended-clause-fed : goal.returns-then-ended-clause-fed
returns-then-ended-clause-fed c = λ text stands place.
    let part : c.min-allowed.result ≡ min (length c.args.piece.now) (CERTIFICATE.bytes - c.args.at) = search rules in (
      c.if-ended.true,
      piece_allowed (subject_of c.args.checker.now) c.args.name.now text c.args.piece.now c.args.at c.min-allowed.result c.feed.new.self place
          c.requires.within part c.if-allowed-piece.false (c.in-Ok.ensures.answer text stands),
    )

pub returns-else-ended-clause-fed : goal.returns-else-ended-clause-fed
returns-else-ended-clause-fed c = λ text stands place.
    let part : c.min-allowed.result ≡ min (length c.args.piece.now) (CERTIFICATE.bytes - c.args.at) = search rules in (
      c.if-ended.false,
      piece_size text c.args.piece.now c.args.at place,
      piece_allowed (subject_of c.args.checker.now) c.args.name.now text c.args.piece.now c.args.at c.min-allowed.result c.feed.new.self place c.requires.within
          part c.if-allowed-piece.false (c.in-Ok.ensures.answer text stands),
    )

pub returns-in-Err-clause-fed : goal.returns-in-Err-clause-fed
returns-in-Err-clause-fed c = λ text stands place.
    let part : c.min-allowed.result ≡ min (length c.args.piece.now) (CERTIFICATE.bytes - c.args.at) = search rules in
    piece_breaks (subject_of c.args.checker.now) c.args.name.now text c.args.piece.now c.args.at c.min-allowed.result c.feed.new.self place c.requires.within
    part c.in-Err.fault c.refused.result c.in-Err.ensures.subject (c.in-Err.ensures.answer text stands) c.refused.ensures

pub returns-then-allowed-piece-clause-cause : goal.returns-then-allowed-piece-clause-cause
returns-then-allowed-piece-clause-cause c = says_only c.args.name.now (longer_than CERTIFICATE.bytes) c.too_long.result c.too_long.ensures

pub returns-in-Err-clause-cause : goal.returns-in-Err-clause-cause
returns-in-Err-clause-cause c = fault_only c.args.name.now c.in-Err.fault c.refused.result c.refused.ensures
