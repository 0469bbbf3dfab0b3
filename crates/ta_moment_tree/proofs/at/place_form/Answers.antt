use Rattle.ta_moment_tree.proofs.Common.{◌∙◌, ℕ, ◌+◌, ◌*◌, ◌^◌, arith, sym, ap, subst, List, length, slice_get, rule_change, UnknownForm, plus_form, times_form}
use Rattle.ta_moment_tree.proofs.Common.{start_form, SmallBy, form_of, vector_of}
use Rattle.ta_moments.specs.Forms.{sum_form}
use Rattle.ta_moment_tree.proofs.Forms.{small_more}
use Rattle.ta_moment_tree.proofs.Starts.{start_small, moving_few}
use Rattle.ta_moment_tree.proofs.Sums.{sum_more, sum_all}
use Rattle.ta_moment_tree.proofs.at.place_form.Goals as goal

pub with_change-requires-clause-form : goal.with_change-requires-clause-form
with_change-requires-clause-form c =
    let same = ap (λ (rs : List ℕ). length rs) (c.as_slice-rule-items.ensures.value ∙ c.requires.plan.moving) in
    let few = moving_few c.args.plan.now.task.automaton.now c.args.plan.now.task.pattern.now in
    let b = c.loop-rule-test.true in
    small_more (17000000000 + c.loop-rule.rule-index * 51000000000) (2 ^ 100) _ (omega arith) c.loop-rule.invariant.small

pub loop-rule-init : goal.loop-rule-init
loop-rule-init c =
    let t = c.args.plan.now.task in
    let g = λ (r : ℕ). times_form (rule_change t.automaton.now (slice_get t.automaton.now.rules r) c.args.place) (vector_of c.args.vector.now r) in
    record {
      rest = ap (λ (f : UnknownForm). plus_form f (sum_form g c.as_slice-rule-items.result.now)) c.in_ok-total.ensures;
      small = subst (λ (f : UnknownForm). SmallBy (17000000000 + 0 * 51000000000) f) (sym c.in_ok-total.ensures)
          (small_more 1 (17000000000 + 0 * 51000000000) _ (omega arith) (start_small t.automaton.now t.pattern.now c.args.place));
    }

pub loop-rule-preserved : goal.loop-rule-preserved
loop-rule-preserved c =
    let t = c.args.plan.now.task in
    let g = λ (r : ℕ). times_form (rule_change t.automaton.now (slice_get t.automaton.now.rules r) c.args.place) (vector_of c.args.vector.now r) in
    let i = c.loop-rule.rule-index in
    let next = form_of c.in_ok-total-2.total in
    record {
      rest = sum_more g c.as_slice-rule-items.result.now i 0 (form_of c.loop-rule.total) next _ c.loop-rule-test.true c.in_ok-total-2.ensures.value
          c.loop-rule.invariant.rest;
      small = small_more ((17000000000 + i * 51000000000) + 51000000000) (17000000000 + (i + 1) * 51000000000) next (omega arith)
          (c.in_ok-total-2.ensures.small (17000000000 + i * 51000000000) c.loop-rule.invariant.small);
    }

pub returns-clause-value : goal.returns-clause-value
returns-clause-value c =
    let t = c.args.plan.now.task in
    let g = λ (r : ℕ). times_form (rule_change t.automaton.now (slice_get t.automaton.now.rules r) c.args.place) (vector_of c.args.vector.now r) in
    sum_all g c.as_slice-rule-items.result.now c.loop-rule.rule-index (form_of c.loop-rule.total) _ c.loop-rule-test.false c.loop-rule.invariant.rest
    ∙ ap (λ (rs : List ℕ). plus_form (start_form t.automaton.now t.pattern.now c.args.place) (sum_form g rs))
    (c.as_slice-rule-items.ensures.value ∙ c.requires.plan.moving)

pub returns-clause-small : goal.returns-clause-small
returns-clause-small c =
    let same = ap (λ (rs : List ℕ). length rs) (c.as_slice-rule-items.ensures.value ∙ c.requires.plan.moving) in
    let few = moving_few c.args.plan.now.task.automaton.now c.args.plan.now.task.pattern.now in
    let high = c.loop-rule.auto.rule-index-end in
    small_more (17000000000 + c.loop-rule.rule-index * 51000000000) (17000000000 * 3100) _ (omega arith) c.loop-rule.invariant.small
