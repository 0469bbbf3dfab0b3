use Rattle.ta_moment_tree.proofs.Common.{pos, ◌≡◌, ◌∙◌, ◌+◌, ◌^◌, get_or, arith, ap, sym, subst, UnknownForm, minus_form, number_form, plus_form, SmallBy}
use Rattle.ta_moment_tree.proofs.Common.{form_of, vector_of}
use Rattle.ta_moments.specs.Forms.{sum_form}
use Rattle.ta_moment_tree.proofs.Forms.{number_is, small_minus, small_more, small_number, small_plus}
use Rattle.ta_moment_tree.proofs.Sums.{none_plus, sum_all, sum_more}
use Rattle.ta_moment_tree.proofs.Beginning.{vector_more_small}
use Rattle.ta_moment_tree.proofs.uses.less_one.Goals as goal

pub loop-rule-init : goal.loop-rule-init
loop-rule-init c =
    let is : form_of c.constant_of-total.result ≡ number_form (pos 0) = number_is c.constant_of-total.result (pos 0) c.constant_of-total.ensures.constant
    c.constant_of-total.ensures.terms in
    record {
      rest = ap (λ (f : UnknownForm). plus_form f (sum_form (vector_of c.args.step.now) c.args.rules.now)) is
          ∙ none_plus (sum_form (vector_of c.args.step.now) c.args.rules.now);
      small = subst (λ (f : UnknownForm). SmallBy 0 f) (sym is) (small_number 0 (pos 0) (omega arith));
    }

pub plus_at-requires-clause-form : goal.plus_at-requires-clause-form
plus_at-requires-clause-form c =
    let few = c.requires.few in
    let b = c.loop-rule-test.true in
    small_more c.loop-rule.rule-index (2 ^ 120) _ (omega arith) c.loop-rule.invariant.small

pub plus_at-requires-clause-vector : goal.plus_at-requires-clause-vector
plus_at-requires-clause-vector c = vector_more_small 1 3 _ (omega arith) c.requires.step

pub loop-rule-preserved : goal.loop-rule-preserved
loop-rule-preserved c =
    let g = vector_of c.args.step.now in
    let i = c.loop-rule.rule-index in
    let total = form_of c.loop-rule.total in
    let next = form_of c.in_ok-total.total in
    let is : next ≡ plus_form total (g (get_or c.args.rules.now i 0)) = c.in_ok-total.ensures in
    record {
      rest = sum_more g c.args.rules.now i 0 total next _ c.loop-rule-test.true is c.loop-rule.invariant.rest;
      small = subst (λ (f : UnknownForm). SmallBy (i + 1) f) (sym is)
          (small_plus i 1 total (g (get_or c.args.rules.now i 0)) c.loop-rule.invariant.small (c.requires.step.each (get_or c.args.rules.now i 0)));
    }

pub minus-requires-clause-left : goal.minus-requires-clause-left
minus-requires-clause-left c =
    let few = c.requires.few in
    let high = c.loop-rule.auto.rule-index-end in
    small_more c.loop-rule.rule-index (2 ^ 119) _ (omega arith) c.loop-rule.invariant.small

pub minus-requires-clause-right : goal.minus-requires-clause-right
minus-requires-clause-right c =
    let is : form_of c.constant_of-one.result ≡ number_form (pos 1) = number_is c.constant_of-one.result (pos 1) c.constant_of-one.ensures.constant
    c.constant_of-one.ensures.terms in
    subst (λ (f : UnknownForm). SmallBy (2 ^ 119) f) (sym is) (small_number (2 ^ 119) (pos 1) (omega arith))

pub returns-clause-value : goal.returns-clause-value
returns-clause-value c =
    let g = vector_of c.args.step.now in
    let one : form_of c.constant_of-one.result ≡ number_form (pos 1) = number_is c.constant_of-one.result (pos 1) c.constant_of-one.ensures.constant
    c.constant_of-one.ensures.terms in
    c.in_ok-less.ensures ∙ ap (minus_form (form_of c.loop-rule.total)) one
    ∙ ap (λ (f : UnknownForm). minus_form f (number_form (pos 1)))
    (sum_all g c.args.rules.now c.loop-rule.rule-index (form_of c.loop-rule.total) _ c.loop-rule-test.false c.loop-rule.invariant.rest)

pub returns-clause-small : goal.returns-clause-small
returns-clause-small c =
    let few = c.requires.few in
    let high = c.loop-rule.auto.rule-index-end in
    let one : form_of c.constant_of-one.result ≡ number_form (pos 1) = number_is c.constant_of-one.result (pos 1) c.constant_of-one.ensures.constant
    c.constant_of-one.ensures.terms in
    subst (λ (f : UnknownForm). SmallBy 1025 f) (sym (c.in_ok-less.ensures ∙ ap (minus_form (form_of c.loop-rule.total)) one))
    (small_more (c.loop-rule.rule-index + 1) 1025 _ (omega arith)
    (small_minus c.loop-rule.rule-index 1 (form_of c.loop-rule.total) (number_form (pos 1)) c.loop-rule.invariant.small
    (small_number 1 (pos 1) (omega arith))))
