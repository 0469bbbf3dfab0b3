use Rattle.ta_moment_tree.proofs.Common.{ℕ, ℤ, ◌∙◌, List, ap, sym, subst, SmallTerms, option_copied}
use Rattle.ta_moment_tree.proofs.Smallness.{guard_small}
use Rattle.ta_moment_tree.proofs.ends.row_at_end.Goals as goal

pub form_at-requires-clause-terms : goal.form_at-requires-clause-terms
form_at-requires-clause-terms c =
    let small = guard_small c.args.plan.now.task.automaton.now c.args.guard c.in-Some.row.now (sym c.guard_row.ensures ∙ ap option_copied c.in-Some.is) in
    subst (λ (ts : List (ℕ × ℤ)). SmallTerms ts) (sym c.as_slice-terms.ensures) small.terms
