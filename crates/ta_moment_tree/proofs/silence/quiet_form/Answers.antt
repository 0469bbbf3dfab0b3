use Rattle.ta_moment_tree.proofs.Common.{ℕ, ℤ, ◌∙◌, ◌≤◌, List, ap, arith, sym, subst, unsigned_abs, to_z_abs, SmallTerms, loud_terms}
use Rattle.ta_moment_tree.proofs.Smallness.{guard_small, loud_small}
use Rattle.ta_moment_tree.proofs.silence.quiet_form.Goals as goal

pub loud_terms-requires : goal.loud_terms-requires
loud_terms-requires c =
    let small = guard_small c.args.plan.now.task.automaton.now c.args.guard c.args.row.now c.requires.row in
    subst (λ (ts : List (ℕ × ℤ)). SmallTerms ts) (sym c.as_slice.ensures) small.terms

pub form_at-requires-clause-constant : goal.form_at-requires-clause-constant
form_at-requires-clause-constant c =
    let small = guard_small c.args.plan.now.task.automaton.now c.args.guard c.args.row.now c.requires.row in
    subst (λ (z : ℤ). unsigned_abs z ≤ 1000000000) (sym (to_z_abs c.args.row.now.form.constant 1000000000 small.constant (omega arith))) small.constant

pub form_at-requires-clause-terms : goal.form_at-requires-clause-terms
form_at-requires-clause-terms c =
    let small = guard_small c.args.plan.now.task.automaton.now c.args.guard c.args.row.now c.requires.row in
    subst (λ (ts : List (ℕ × ℤ)). SmallTerms ts)
    (sym (c.as_slice-2.ensures.value ∙ c.in_ok-loud.ensures ∙ ap (loud_terms c.args.silent.now) c.as_slice.ensures))
    (loud_small c.args.silent.now c.args.row.now.form.terms small.terms)
