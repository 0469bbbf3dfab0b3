use Rattle.ta_moment_tree.proofs.Common.{◌∙◌, sym, ap, option_copied}
use Rattle.ta_moment_tree.proofs.Smallness.{guard_small}
use Rattle.ta_moment_tree.proofs.rows.push_guard.Goals as goal

pub push_form_at-requires-clause-form : goal.push_form_at-requires-clause-form
push_form_at-requires-clause-form c = guard_small c.args.plan.now.task.automaton.now c.args.guard c.in-Some.row.now
    (sym c.guard_row.ensures ∙ ap option_copied c.in-Some.is)
