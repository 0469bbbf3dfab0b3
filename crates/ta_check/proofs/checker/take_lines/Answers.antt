use Rattle.ta_check.proofs.Common.{length, arith, ap, length-drop, err_is, claiming_with}
use Rattle.ta_check.proofs.Pieces.{somewhere, goes_on, goes_within, goes_wrong}
use Rattle.ta_check.proofs.checker.take_lines.Goals as goal

pub take_next-requires : goal.take_next-requires
take_next-requires c = somewhere (claiming_with c.args.claim c.args.file.now c.args.silent.now) c.args.reader.now c.lines.reader c.args.position.now
    c.lines.position c.args.piece.now c.lines.rest.now c.lines.invariant c.requires

pub returns-in_err-taken : goal.returns-in_err-taken
returns-in_err-taken c =
    rw (err_is c.from_residual.result _ c.from_residual.ensures.1)
    (goes_wrong (claiming_with c.args.claim c.args.file.now c.args.silent.now) c.args.reader.now c.lines.reader c.take_next.new.reader c.args.position.now
    c.lines.position c.take_next.new.position c.args.piece.now c.lines.rest.now c.in_err-taken.field-0.0 c.lines.invariant c.in_err-taken.ensures)

pub split_at-requires : goal.split_at-requires
split_at-requires c =
    let goes = rw c.in-Some.is at c.in_ok-taken.ensures in
    (goes_within (claiming_with c.args.claim c.args.file.now c.args.silent.now) c.args.reader.now c.lines.reader c.take_next.new.reader c.args.position.now
    c.lines.position c.take_next.new.position c.args.piece.now c.lines.rest.now c.in-Some.taken c.lines.invariant c.requires goes).1

pub lines-smaller : goal.lines-smaller
lines-smaller c =
    let goes = rw c.in-Some.is at c.in_ok-taken.ensures in
    let within = goes_within (claiming_with c.args.claim c.args.file.now c.args.silent.now) c.args.reader.now c.lines.reader c.take_next.new.reader
    c.args.position.now c.lines.position c.take_next.new.position c.args.piece.now c.lines.rest.now c.in-Some.taken c.lines.invariant c.requires goes in
    let some = within.0 in
    let most = within.1 in
    omega (arith, ap length c.split_at.ensures.back, length-drop c.in-Some.taken c.lines.rest.now)

pub lines-preserved : goal.lines-preserved
lines-preserved c =
    let goes = rw c.in-Some.is at c.in_ok-taken.ensures in
    goes_on (claiming_with c.args.claim c.args.file.now c.args.silent.now) c.args.reader.now c.lines.reader c.take_next.new.reader c.args.position.now
    c.lines.position c.take_next.new.position c.args.piece.now c.lines.rest.now c.split_at.result.1.now c.in-Some.taken c.lines.invariant goes
    c.split_at.ensures.back
