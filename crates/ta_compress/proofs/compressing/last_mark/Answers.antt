use Rattle.ta_compress.proofs.Common.{get_or, pos, slice_get-get_or, Step}
use Rattle.ta_compress.proofs.Lasts.{last_none, last_next, last_all}
use Rattle.ta_compress.proofs.compressing.last_mark.Goals as goal

pub loop-number-init : goal.loop-number-init
loop-number-init c = last_none c.args.lines.now

pub loop-number-preserved : goal.loop-number-preserved
loop-number-preserved c =
    let lines = c.args.lines.now in
    let i = c.loop-number.number in
    let named = slice_get-get_or lines i (Step 0 (pos 0)) c.loop-number-test.true in
    last_next lines i c.loop-number.count c.count_with-count.result (get_or lines i (Step 0 (pos 0))) c.loop-number.invariant named
    c.count_with-count.ensures.marked c.count_with-count.ensures.other

pub returns : goal.returns
returns c = last_all c.args.lines.now c.loop-number.number c.loop-number.count c.loop-number-test.false c.loop-number.invariant
