use Rattle.ta_program.proofs.Common.{◌≡◌, ◌<◌, ◌+◌, length, sym, arith, false≢true, take, concat}
use Rattle.ta_base.proofs.Lists.{concat_length, concat_within}
use Rattle.ta_program.proofs.certified.are_within.Goals as goal

pub returns-then-left-size : goal.returns-then-left-size
returns-then-left-size c =
    let texts = c.args.texts.now in
    let k = c.loop-text.text-index in
    let more : length (concat (take (k + 1) texts)) ≡ length (concat (take k texts)) + length c.as_str.result.now = rw c.as_str.ensures
    (concat_length texts k c.text-item.result c.loop-text-test.true (sym c.text-item.is)) in
    let less : c.loop-text.left < length c.as_str.result.now = c.if-left-size.true in
    let so = c.loop-text.invariant in
    let within = concat_within texts (k + 1) in
    (λ is. absurd (false≢true is), λ few. absurd (omega arith))

pub loop-text-preserved : goal.loop-text-preserved
loop-text-preserved c =
    let texts = c.args.texts.now in
    let k = c.loop-text.text-index in
    let more : length (concat (take (k + 1) texts)) ≡ length (concat (take k texts)) + length c.as_str.result.now = rw c.as_str.ensures
    (concat_length texts k c.text-item.result c.loop-text-test.true (sym c.text-item.is)) in
    let enough = c.if-left-size.false in
    let so = c.loop-text.invariant in
    omega arith
