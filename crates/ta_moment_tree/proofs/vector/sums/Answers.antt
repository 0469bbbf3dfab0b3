use Rattle.ta_moment_tree.proofs.Common.{◌∙◌, inl, inr, ℕ, pos, ap, sym, arith, length, length-append, cases_lt, List, ◌∷◌, [], Form, UnknownForm, plus_form}
use Rattle.ta_moment_tree.proofs.Common.{number_form, vector_of}
use Rattle.ta_moment_tree.proofs.Vectors.{nothing_more, vector_more, vector_past, vector_same}
use Rattle.ta_moment_tree.proofs.vector.sums.Goals as goal

pub loop-rule-preserved : goal.loop-rule-preserved
loop-rule-preserved c =
    let v = λ (q : ℕ). plus_form (vector_of c.args.left.now q) (vector_of c.args.right.now q) in
    let forms = c.loop-rule.forms.items in
    let form = c.in_ok-sum.sum in
    let items = c.in_ok-push.ensures.items in
    record {
      count = (let long = ap (λ (xs : List Form). length xs) items in let l = length-append forms (form ∷ []) in let count = c.loop-rule.invariant.count in
          omega arith);
      each = λ r b. ap (λ (xs : List Form). vector_of xs r) items
          ∙ vector_more forms form v c.loop-rule.rule c.loop-rule.invariant.count c.loop-rule.invariant.each c.in_ok-sum.ensures r b;
    }

pub returns-clause-value : goal.returns-clause-value
returns-clause-value c =
    let left = c.args.left.now in
    let right = c.args.right.now in
    let v = λ (q : ℕ). plus_form (vector_of left q) (vector_of right q) in
    let high = c.loop-rule.auto.rule-end in
    let low = c.loop-rule-test.false in
    let same = c.requires.lengths in
    let count = c.loop-rule.invariant.count in
    vector_same (vector_of c.loop-rule.forms.items) v (λ r. elim (cases_lt r c.loop-rule.rule) [
      | inl b ↦ c.loop-rule.invariant.each r b
      | inr b ↦ vector_past c.loop-rule.forms.items r (omega arith)
          ∙ sym (ap (λ (f : UnknownForm). plus_form f (vector_of right r)) (vector_past left r (omega arith))
          ∙ ap (plus_form (number_form (pos 0))) (vector_past right r (omega arith)) ∙ nothing_more)
    ])
