use Rattle.ta_moment_tree.proofs.Common.{◌≡◌, ◌∙◌, ℤ, pos, ◌+◌, arith, sym, ap, subst, is_none, to_z_abs, slice_get, rule_change, UnknownForm, plus_form}
use Rattle.ta_moment_tree.proofs.Common.{times_form, SmallBy, form_of, vector_of}
use Rattle.ta_moment_tree.proofs.Forms.{small_more, small_plus, small_times}
use Rattle.ta_moment_tree.proofs.Sums.{plus_none, times_none}
use Rattle.ta_moment_tree.proofs.at.with_change.Goals as goal

pub returns-then-change-eq0-clause-value : goal.returns-then-change-eq0-clause-value
returns-then-change-eq0-clause-value c =
    let f = form_of c.args.form in
    let v = vector_of c.args.vector.now c.args.rule in
    let told = c.change_of-change.ensures in
    let small = told.small in
    let none : c.change_of-change.result ≡ pos 0 = is_none c.change_of-change.result (omega arith) c.if-change-eq0.true in
    sym (plus_none f) ∙ ap (plus_form f) (sym (times_none v) ∙ ap (λ z. times_form z v) (sym none ∙ told.value))

pub returns-then-change-eq0-clause-small : goal.returns-then-change-eq0-clause-small
returns-then-change-eq0-clause-small c n h = small_more n (n + 51000000000) (form_of c.args.form) (omega arith) h

pub plus_times-requires-clause-x : goal.plus_times-requires-clause-x
plus_times-requires-clause-x c = subst (λ (f : UnknownForm). SmallBy 3 f) (sym c.of_rule.ensures) (c.requires.vector.each c.args.rule)

pub returns-clause-value : goal.returns-clause-value
returns-clause-value c =
    let same = to_z_abs c.change_of-change.result 17000000000 c.change_of-change.ensures.small (omega arith) in
    c.in_ok-sum.ensures ∙ ap (plus_form (form_of c.args.form))
    (ap (λ (z : ℤ). times_form z (form_of c.of_rule.result.now)) (same ∙ c.change_of-change.ensures.value)
    ∙ ap (times_form (rule_change c.args.plan.now.task.automaton.now (slice_get c.args.plan.now.task.automaton.now.rules c.args.rule) c.args.place))
    c.of_rule.ensures)

pub returns-clause-small : goal.returns-clause-small
returns-clause-small c n h =
    let small = c.change_of-change.ensures.small in
    let same = to_z_abs c.change_of-change.result 17000000000 small (omega arith) in
    let v = vector_of c.args.vector.now c.args.rule in
    let is = c.in_ok-sum.ensures ∙ ap (plus_form (form_of c.args.form))
    (ap (λ (z : ℤ). times_form z (form_of c.of_rule.result.now)) same ∙ ap (times_form c.change_of-change.result) c.of_rule.ensures) in
    subst (λ (f : UnknownForm). SmallBy (n + 51000000000) f) (sym is)
    (small_plus n 51000000000 (form_of c.args.form) _ h (small_times 17000000000 3 c.change_of-change.result v small (c.requires.vector.each c.args.rule)))
