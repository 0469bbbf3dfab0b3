use Rattle.ta_moment_tree.proofs.Common.{◌≡◌, ◌∙◌, inl, inr, ℕ, pos, ap, sym, arith, length, length-append, cases_lt, List, ◌∷◌, [], Form, UnknownForm}
use Rattle.ta_moment_tree.proofs.Common.{minus_form, number_form, vector_of}
use Rattle.ta_moments.specs.Moments.{fresh}
use Rattle.ta_moment_tree.proofs.Vectors.{fresh_beyond, nothing_less, vector_more, vector_past, vector_same}
use Rattle.ta_moment_tree.proofs.vector.fresh.Goals as goal

pub loop-rule-preserved : goal.loop-rule-preserved
loop-rule-preserved c =
    let v = fresh c.args.first c.args.rules.now (λ q. minus_form (vector_of c.args.above.now q) (vector_of c.args.beneath.now q)) in
    let forms = c.loop-rule.forms.items in
    let form = c.in_ok-form.form in
    let items = c.in_ok-push.ensures.items in
    record {
      count = (let long = ap (λ (xs : List Form). length xs) items in let l = length-append forms (form ∷ []) in let count = c.loop-rule.invariant.count in
          omega arith);
      each = λ r b. ap (λ (xs : List Form). vector_of xs r) items
          ∙ vector_more forms form v c.loop-rule.rule c.loop-rule.invariant.count c.loop-rule.invariant.each c.in_ok-form.ensures r b;
    }

pub returns-clause-value : goal.returns-clause-value
returns-clause-value c =
    let above = c.args.above.now in
    let beneath = c.args.beneath.now in
    let other = λ (q : ℕ). minus_form (vector_of above q) (vector_of beneath q) in
    let v = fresh c.args.first c.args.rules.now other in
    let high = c.loop-rule.auto.rule-end in
    let low = c.loop-rule-test.false in
    let end : c.loop-rule.rule ≡ c.args.count = omega arith in
    let lengths = c.requires.lengths in
    vector_same (vector_of c.loop-rule.forms.items) v (λ r. elim (cases_lt r c.loop-rule.rule) [
      | inl b ↦ c.loop-rule.invariant.each r b
      | inr b ↦ (
          let one = lengths.0 in
          let two = lengths.1 in
          let count = c.loop-rule.invariant.count in
          vector_past c.loop-rule.forms.items r (omega arith)
          ∙ sym (fresh_beyond c.args.first c.args.rules.now other r c.args.count c.requires.rules (omega arith)
          ∙ ap (λ (f : UnknownForm). minus_form f (vector_of beneath r)) (vector_past above r (omega arith))
          ∙ ap (minus_form (number_form (pos 0))) (vector_past beneath r (omega arith)) ∙ nothing_less)
          )
    ])
