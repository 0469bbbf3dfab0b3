use Rattle.ta_encode.proofs.Common.{map, take, arith, ◌<◌, [], ◌∷◌, ◌++◌, ap, sym, ◌∙◌, subst, bit_off, bit_on, Row, has_bit, form_row, guard_rows, Adds}
use Rattle.ta_encode.proofs.Common.{in_sense}
use Rattle.ta_encode.proofs.Adding.{adds_alike, adds_more, guard_taken, guard_left}
use Rattle.ta_encode.proofs.draft.Draft.push_guards.Goals.{then-mask-number-ne0+in_ok-push_form, else-mask-number-ne0}
use Rattle.ta_encode.proofs.draft.Draft.push_guards.Goals as goal

pub loop-number-preserved : goal.loop-number-preserved
loop-number-preserved c =
    let before = c.args.self.now in
    let a = before.automaton.now in
    let ms = before.meanings.items in
    let items = c.args.guards.now in
    let i = c.loop-number.number in
    let g = c.index-guards-number.result in
    let test = has_bit c.args.mask in
    let within : i < 128 = (let few = c.requires.few in let b = c.loop-number-test.true in omega arith) in
    elim c.if-mask-number-ne0.branch [
      | then-mask-number-ne0+in_ok-push_form w ↦
          subst (Adds _ before) (sym w.self-is)
          (adds_more
          (ap (λ (r : Row). map (in_sense c.args.sense) (guard_rows a ms test 0 (take i items)) ++ in_sense c.args.sense (form_row a ms r.form) ∷ [])
          c.index-guards-number.is
          ∙ guard_taken a ms test c.args.sense items i g c.loop-number-test.true (bit_on 128 c.args.mask i within w.if-mask-number-ne0.true))
          c.loop-number.invariant w.in_ok-push_form.ensures)
      | else-mask-number-ne0 w ↦
          subst (Adds _ before) (sym w.self-is)
          (adds_alike (guard_left a ms test c.args.sense items i g c.loop-number-test.true (bit_off 128 c.args.mask i within w.if-mask-number-ne0.false))
          c.loop-number.invariant)
    ]
