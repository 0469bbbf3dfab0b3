use Rattle.ta_witness.proofs.Common.{◌∙◌, ◌≡◌, ◌+◌, ◌++◌, ◌∷◌, [], ap, rules, Some, subst, sym, take, take_more, take_all, each_push, FitsSigned, w128}
use Rattle.ta_witness.proofs.Common.{to_z-of_z, AllByRecursion, each_at, IsNormal, point_of, value_of, Form, slice_get-get_or, IfOk-from_err, length}
use Rattle.ta_witness.proofs.Common.{VectorStays, form_values}
use Rattle.ta_linear.specs.Sums.{StaysInRange}
use Rattle.ta_witness.proofs.Mapped.{mapped_more}
use Rattle.ta_witness.proofs.values.form_values.Goals as goal

pub loop-form-preserved : goal.loop-form-preserved
loop-form-preserved c =
    let point = point_of c.args.values.now in
    let forms = c.args.forms.now in
    let i = c.loop-form.form-index in
    let x = c.form-item.result in
    let P : Form → Type 0 = λ form. StaysInRange point form.constant form.terms in
    let more : take (i + 1) forms ≡ take i forms ++ x ∷ [] = take_more forms i x c.loop-form-test.true
    ∙ ap (λ (y : Form). take i forms ++ y ∷ []) (sym c.form-item.is) in
    let fits : FitsSigned w128 c.in-Ok.number = search rules in
    let items = simp to_z-of_z at c.in_ok-push.ensures.items in
    let own = c.in-Ok.ensures in (
      mapped_more (value_of point) forms i x c.in-Ok.number c.loop-form.numbers.items c.push.new.self.items c.loop-form-test.true
          (own.1 ∙ ap (value_of point) c.form-item.is) c.loop-form.invariant.0 items,
      subst (AllByRecursion P) (sym more) (each_push P (take i forms) x c.loop-form.invariant.1 own.0),
    )

pub value_at-requires : goal.value_at-requires
value_at-requires c =
    let forms = c.args.forms.now in
    let i = c.loop-form.form-index in
    let x = c.form-item.result in
    each_at (λ (form : Form). IsNormal 0 (length c.args.values.now) form.terms) forms i x c.requires
    (slice_get-get_or forms i x c.loop-form-test.true ∙ ap Some (sym c.form-item.is))

pub returns-clause-are : goal.returns-clause-are
returns-clause-are c = c.loop-form.invariant.0 ∙ ap (form_values c.args.values.now) (take_all c.loop-form.form-index c.args.forms.now c.loop-form-test.false)

pub returns-clause-stays : goal.returns-clause-stays
returns-clause-stays c =
    subst (VectorStays c.args.values.now) (take_all c.loop-form.form-index c.args.forms.now c.loop-form-test.false) c.loop-form.invariant.1

pub returns-in_default-clause-fault : goal.returns-in_default-clause-fault
returns-in_default-clause-fault c = λ stays.
    let forms = c.args.forms.now in
    let i = c.loop-form.form-index in
    let x = c.form-item.result in
    c.in_default.ensures
    (each_at (λ (form : Form). StaysInRange (point_of c.args.values.now) form.constant form.terms) forms i x stays
    (slice_get-get_or forms i x c.loop-form-test.true ∙ ap Some (sym c.form-item.is)))

pub returns-in_err-push-clause-are : goal.returns-in_err-push-clause-are
returns-in_err-push-clause-are c = IfOk-from_err c.from_residual.result _ c.from_residual.ensures.0

pub returns-in_err-push-clause-stays : goal.returns-in_err-push-clause-stays
returns-in_err-push-clause-stays c = IfOk-from_err c.from_residual.result _ c.from_residual.ensures.0
