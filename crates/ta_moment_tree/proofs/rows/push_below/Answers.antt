use Rattle.ta_moment_tree.proofs.Common.{◌≡◌, ◌∙◌, ℕ, ◌+◌, ◌++◌, ◌∷◌, [], arith, ap, sym, subst, length, get_or, List, map, filter, take, Row, take-length}
use Rattle.ta_moment_tree.proofs.Common.{UnknownForm, may_be_negative, minus_form, Speaks, form_of, vector_of, AddsForms}
use Rattle.ta_moment_tree.proofs.Forms.{minus_speaks}
use Rattle.ta_moment_tree.proofs.Adding.{adds_more, adds_same, kept_none, kept_one}
use Rattle.ta_moment_tree.proofs.rows.push_below.Goals.{then-may_be_negative+in_ok-push_form, else-may_be_negative}
use Rattle.ta_moment_tree.proofs.rows.push_below.Goals as goal

pub loop-rule-preserved : goal.loop-rule-preserved
loop-rule-preserved c n h k =
    let g : ℕ → UnknownForm = λ r. minus_form (vector_of c.args.above.now r) (vector_of c.args.beneath.now r) in
    let items = c.as_slice-rule-items.result.now in
    let i = c.loop-rule.rule-index in
    let r = get_or items i 0 in
    let less = c.loop-rule-test.true in
    let form = form_of c.in_ok-form.form in
    let speaks : Speaks n form = subst (λ (f : UnknownForm). Speaks n f) (sym c.in_ok-form.ensures)
    (minus_speaks n (vector_of c.args.above.now r) (vector_of c.args.beneath.now r) (k r) (h r)) in
    let told : c.may_be_negative.result ≡ may_be_negative n (g r) = c.may_be_negative.ensures n speaks ∙ ap (may_be_negative n) c.in_ok-form.ensures in
    elim c.if-may_be_negative.branch [
      | then-may_be_negative+in_ok-push_form w ↦
          subst (λ (rs : List Row). AddsForms (filter (may_be_negative n) (map g (take (i + 1) items))) c.args.rows.now.items rs)
          (sym (ap (λ v. v.items) w.rows-is))
          (adds_more _ _ _ _ _ _
          (ap (λ (f : UnknownForm). filter (may_be_negative n) (map g (take i items)) ++ f ∷ []) c.in_ok-form.ensures
          ∙ kept_one (may_be_negative n) g items i 0 less (sym told ∙ w.if-may_be_negative.true))
          (c.loop-rule.invariant n h k) w.in_ok-push_form.ensures)
      | else-may_be_negative w ↦
          subst (λ (rs : List Row). AddsForms (filter (may_be_negative n) (map g (take (i + 1) items))) c.args.rows.now.items rs)
          (sym (ap (λ v. v.items) w.rows-is))
          (adds_same _ _ _ _ (kept_none (may_be_negative n) g items i 0 less (sym told ∙ w.if-may_be_negative.false)) (c.loop-rule.invariant n h k))
    ]

pub returns : goal.returns
returns c n h k =
    let g : ℕ → UnknownForm = λ r. minus_form (vector_of c.args.above.now r) (vector_of c.args.beneath.now r) in
    let items = c.as_slice-rule-items.result.now in
    let end : c.loop-rule.rule-index ≡ length items = (let low = c.loop-rule-test.false in let high = c.loop-rule.auto.rule-index-end in omega arith) in
    let all : take c.loop-rule.rule-index items ≡ items = ap (λ m. take m items) end ∙ take-length items in
    adds_same _ _ _ _ (ap (λ (rs : List ℕ). filter (may_be_negative n) (map g rs)) (all ∙ c.as_slice-rule-items.ensures.value ∙ c.requires.plan.moving))
    (c.loop-rule.invariant n h k)
