use Rattle.ta_moment_tree.proofs.Common.{ℕ, Bool, List, ◌++◌, ◌∷◌, [], get_or, sym, ap, ◌∙◌, slice_get, has_guard}
use Rattle.ta_moment_tree.proofs.Lists.{item_kept, item_left}
use Rattle.ta_moment_tree.proofs.plan.needing.Goals.{then-has_guard+in_ok-push, else-has_guard}
use Rattle.ta_moment_tree.proofs.plan.needing.Goals as goal

pub loop-rule-preserved : goal.loop-rule-preserved
loop-rule-preserved c =
    let rules = c.args.moving.now in
    let i = c.loop-rule.rule-index in
    let test : ℕ → Bool = λ k. has_guard c.args.automaton.now c.args.guard (slice_get c.args.automaton.now.rules k) in
    elim c.if-has_guard.branch [
      | then-has_guard+in_ok-push w ↦
          ap (λ v. v.items) w.rules-is ∙ w.in_ok-push.ensures.items ∙ ap (λ (rs : List ℕ). rs ++ get_or rules i 0 ∷ []) c.loop-rule.invariant
          ∙ item_kept test rules i 0 c.loop-rule-test.true (sym c.has_guard.ensures ∙ w.if-has_guard.true)
      | else-has_guard w ↦ ap (λ v. v.items) w.rules-is ∙ c.loop-rule.invariant
          ∙ item_left test rules i 0 c.loop-rule-test.true (sym c.has_guard.ensures ∙ w.if-has_guard.false)
    ]
