use Rattle.ta_shelf.proofs.ShellCommon.{◌≡◌, ◌++◌, ◌+◌, sym, append_assoc, concat, take}
use Rattle.ta_base.proofs.Lists.{concat_next}
use Rattle.ta_shelf.proofs.staged_file.add_texts_to_file.Goals as goal

pub returns-in-Err : goal.returns-in-Err
returns-in-Err g c = λ begun text h. c.in-Err.ensures begun _ (c.loop-text.invariant begun text h)

pub loop-text-preserved : goal.loop-text-preserved
loop-text-preserved g c = λ begun text h.
    let texts = c.args.texts.now in
    let k = c.loop-text.text-index in
    let so_far = concat (take k texts) in
    let more = rw (c.as_bytes.ensures.value, c.as_str.ensures) at c.in-Ok.ensures begun (text ++ so_far) (c.loop-text.invariant begun text h) in
    let next : concat (take (k + 1) texts) ≡ so_far ++ c.text-item.result = concat_next texts k c.text-item.result c.loop-text-test.true (sym c.text-item.is) in
    rw next (rw (append_assoc text so_far c.text-item.result) at more)
