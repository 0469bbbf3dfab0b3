use Rattle.ta_check.proofs.Common.{Err, ap, err_is, claiming_with}
use Rattle.ta_check.proofs.Pieces.{next_refused, next_none, next_some, next_fails, line_is}
use Rattle.ta_check.proofs.checker.take_next.Goals as goal

pub returns-in_err-feed_line : goal.returns-in_err-feed_line
returns-in_err-feed_line c =
    rw (err_is c.from_residual.result _ c.from_residual.ensures.1)
    (λ limit. next_refused (claiming_with c.args.claim c.args.file.now c.args.silent.now limit) c.args.reader.now c.feed_line.new.self c.args.position.now
    c.args.bytes.now
    c.in_err-feed_line.field-0.0 c.in_err-feed_line.ensures.answer (λ is. c.in_err-feed_line.ensures.refused.0 (ap Err is)))

pub take_line-requires-clause-form : goal.take_line-requires-clause-form
take_line-requires-clause-form c =
    let gives = rw c.in-Some.is at c.in_ok-feed_line.ensures.answer in
    line_is (claiming_with c.args.claim c.args.file.now c.args.silent.now c.requires.0) c.args.reader.now c.feed_line.new.self c.args.position.now
    c.args.bytes.now c.in-Some.field-0 c.requires.1 c.requires.2 gives

pub returns-in_err-take_line-in-Some : goal.returns-in_err-take_line-in-Some
returns-in_err-take_line-in-Some c =
    let gives = rw c.in-Some.is at c.in_ok-feed_line.ensures.answer in
    rw (err_is c.from_residual-in_err-take_line-in-Some.result _ c.from_residual-in_err-take_line-in-Some.ensures.1)
    (λ limit. next_fails (claiming_with c.args.claim c.args.file.now c.args.silent.now limit) c.args.reader.now c.feed_line.new.self c.args.position.now
    c.take_line.new.self c.args.bytes.now c.in-Some.field-0 c.in_err-take_line-in-Some.field-0.0 gives (c.in_err-take_line-in-Some.ensures limit))

pub returns-in_ok-take_line-in-Some : goal.returns-in_ok-take_line-in-Some
returns-in_ok-take_line-in-Some c =
    let gives = rw c.in-Some.is at c.in_ok-feed_line.ensures.answer in
    (λ limit. next_some (claiming_with c.args.claim c.args.file.now c.args.silent.now limit) c.args.reader.now c.feed_line.new.self c.args.position.now
    c.take_line.new.self c.args.bytes.now c.in-Some.field-0 c.in_ok-feed_line.ensures.stays gives (c.in_ok-take_line-in-Some.ensures limit))

pub returns-in-None : goal.returns-in-None
returns-in-None c =
    let gives = rw c.in-None.is at c.in_ok-feed_line.ensures.answer in
    (λ limit. next_none (claiming_with c.args.claim c.args.file.now c.args.silent.now limit) c.args.reader.now c.feed_line.new.self c.args.position.now
    c.args.bytes.now c.in_ok-feed_line.ensures.stays gives)
