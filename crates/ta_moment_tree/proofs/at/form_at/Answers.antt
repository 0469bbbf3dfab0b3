use Rattle.ta_moment_tree.proofs.Common.{◌≡◌, ◌∙◌, ℤ, pos, ◌+◌, ◌*◌, ◌≤◌, ◌^◌, arith, sym, ap, subst, get_or, to_z, of_z, w128, to_z_abs, unsigned_abs}
use Rattle.ta_moment_tree.proofs.Common.{UnknownForm, number_form, plus_form, times_form, place_form, SmallBy, form_of, vector_of}
use Rattle.ta_moments.specs.Forms.{terms_form}
use Rattle.ta_moment_tree.proofs.Forms.{number_is, small_more, small_number, small_plus}
use Rattle.ta_moment_tree.proofs.Sums.{factor_small, terms_more, terms_all}
use Rattle.ta_moment_tree.proofs.at.form_at.Goals as goal

pub loop-place-init : goal.loop-place-init
loop-place-init c =
    let point = place_form c.args.plan.now.task.automaton.now c.args.plan.now.task.pattern.now (vector_of c.args.vector.now) in
    let z = to_z w128 (of_z w128 c.args.constant) in
    let is : form_of c.constant_of-total.result ≡ number_form z = number_is c.constant_of-total.result z c.constant_of-total.ensures.constant
    c.constant_of-total.ensures.terms in
    let small : unsigned_abs z ≤ 1000000000 = subst (λ (y : ℤ). unsigned_abs y ≤ 1000000000)
    (sym (to_z_abs c.args.constant 1000000000 c.requires.constant (omega arith))) c.requires.constant in
    record {
      rest = ap (λ (f : UnknownForm). plus_form f (terms_form point c.args.terms.now)) is;
      small = subst (λ (f : UnknownForm). SmallBy (1000000000 + 0 * 52700000000000000000000) f) (sym is)
          (small_more 1000000000 (1000000000 + 0 * 52700000000000000000000) _ (omega arith) (small_number 1000000000 z small));
    }

pub product_at-requires-clause-coefficient : goal.product_at-requires-clause-coefficient
product_at-requires-clause-coefficient c =
    let small = factor_small c.args.terms.now c.loop-place.place-index c.requires.terms.small c.loop-place-test.true in
    subst (λ (y : ℤ). unsigned_abs y ≤ 1000000000)
    (sym (to_z_abs (get_or c.args.terms.now c.loop-place.place-index (0, pos 0)).1 1000000000 small (omega arith))) small

pub plus-requires-clause-left : goal.plus-requires-clause-left
plus-requires-clause-left c =
    let b = c.loop-place-test.true in
    let few = c.requires.terms.few in
    small_more (1000000000 + c.loop-place.place-index * 52700000000000000000000) (2 ^ 120) _ (omega arith) c.loop-place.invariant.small

pub plus-requires-clause-right : goal.plus-requires-clause-right
plus-requires-clause-right c = small_more 52700000000000000000000 (2 ^ 120) _ (omega arith) c.in_ok-product.ensures.small

pub loop-place-preserved : goal.loop-place-preserved
loop-place-preserved c =
    let point = place_form c.args.plan.now.task.automaton.now c.args.plan.now.task.pattern.now (vector_of c.args.vector.now) in
    let ts = c.args.terms.now in
    let i = c.loop-place.place-index in
    let total = form_of c.loop-place.total in
    let term = get_or ts i (0, pos 0) in
    let clean = to_z_abs term.1 1000000000 (factor_small ts i c.requires.terms.small c.loop-place-test.true) (omega arith) in
    let is : form_of c.in_ok-product.product ≡ times_form term.1 (point term.0) = c.in_ok-product.ensures.value
    ∙ ap (λ (z : ℤ). times_form z (point term.0)) clean in
    record {
      rest = terms_more point ts i (0, pos 0) total _ _ c.loop-place-test.true (c.in_ok-total.ensures ∙ ap (plus_form total) is) c.loop-place.invariant.rest;
      small = subst (λ (f : UnknownForm). SmallBy (1000000000 + (i + 1) * 52700000000000000000000) f) (sym c.in_ok-total.ensures)
          (small_more ((1000000000 + i * 52700000000000000000000) + 52700000000000000000000) (1000000000 + (i + 1) * 52700000000000000000000) _ (omega arith)
          (small_plus (1000000000 + i * 52700000000000000000000) 52700000000000000000000 total _ c.loop-place.invariant.small c.in_ok-product.ensures.small));
    }

pub returns-clause-value : goal.returns-clause-value
returns-clause-value c =
    let point = place_form c.args.plan.now.task.automaton.now c.args.plan.now.task.pattern.now (vector_of c.args.vector.now) in
    terms_all point c.args.terms.now c.loop-place.place-index (form_of c.loop-place.total) _ c.loop-place-test.false c.loop-place.invariant.rest
    ∙ ap (λ (z : ℤ). plus_form (number_form z) (terms_form point c.args.terms.now)) (to_z_abs c.args.constant 1000000000 c.requires.constant (omega arith))

pub returns-clause-small : goal.returns-clause-small
returns-clause-small c =
    let few = c.requires.terms.few in
    let high = c.loop-place.auto.place-index-end in
    small_more (1000000000 + c.loop-place.place-index * 52700000000000000000000) (17000000000 * 3100 * 1000000000 * 225) _ (omega arith)
    c.loop-place.invariant.small
