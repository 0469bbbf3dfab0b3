use Rattle.ta_report.proofs.Common.{◌++◌, ◌∙◌, sym, ap, arith, mask_text}
use Rattle.std.proofs.Common.{string_bytes}
use Rattle.ta_report.proofs.Showing.{none_left, set_next, unset_next}
use Rattle.ta_report.proofs.shown.show_mask.Goals.{then-contains+in_ok-write, else-contains}
use Rattle.ta_report.proofs.shown.show_mask.Goals as goal

pub loop-number-preserved : goal.loop-number-preserved
loop-number-preserved c =
    let mask = c.args.mask in
    let n = c.loop-number.number-counter in
    let old = string_bytes c.loop-number.text in
    let new = string_bytes c.if-contains.text in
    let all = string_bytes c.args.text.now ++ mask_text mask in
    elim c.if-contains.branch [
      | then-contains+in_ok-write w ↦ set_next mask n old new all (omega (arith, c.loop-number-test.true)) (sym c.contains.ensures.bit ∙ w.if-contains.true)
          (ap string_bytes w.text-is ∙ w.in_ok-write.ensures.bytes) c.loop-number.invariant
      | else-contains w ↦ unset_next mask n old new all (omega (arith, c.loop-number-test.true)) (sym c.contains.ensures.bit ∙ w.if-contains.false)
          (ap string_bytes w.text-is) c.loop-number.invariant
    ]

pub returns : goal.returns
returns c = none_left c.args.mask c.loop-number.number-counter _ _ c.loop-number-test.false c.loop-number.invariant
