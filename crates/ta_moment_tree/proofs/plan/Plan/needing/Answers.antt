use Rattle.ta_moment_tree.proofs.Common.{ℕ, ◌∙◌, filter, slice_get, ap, has_guard}
use Rattle.ta_moment_tree.proofs.plan.Plan.needing.Goals as goal

pub returns : goal.returns
returns c =
    let a = c.args.self.now.task.automaton.now in
    c.in_ok-rules.ensures ∙ ap (filter (λ (r : ℕ). has_guard a c.args.guard (slice_get a.rules r))) (c.as_slice.ensures.value ∙ c.requires.moving)
