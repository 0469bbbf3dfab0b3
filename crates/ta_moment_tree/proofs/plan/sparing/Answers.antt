use Rattle.ta_moment_tree.proofs.Common.{ℕ, Bool, List, ◌++◌, ◌∷◌, [], get_or, not, sym, ap, ◌∙◌, slice_get, has_guard}
use Rattle.ta_moment_tree.proofs.Lists.{item_kept, item_left}
use Rattle.ta_moment_tree.proofs.plan.sparing.Goals.{then-not-has_guard+in_ok-push, else-not-has_guard}
use Rattle.ta_moment_tree.proofs.plan.sparing.Goals as goal

pub loop-rule-preserved : goal.loop-rule-preserved
loop-rule-preserved c =
    let rules = c.args.moving.now in
    let i = c.loop-rule.rule-index in
    let test : ℕ → Bool = λ k. not (has_guard c.args.automaton.now c.args.guard (slice_get c.args.automaton.now.rules k)) in
    elim c.if-not-has_guard.branch [
      | then-not-has_guard+in_ok-push w ↦
          ap (λ v. v.items) w.rules-is ∙ w.in_ok-push.ensures.items ∙ ap (λ (rs : List ℕ). rs ++ get_or rules i 0 ∷ []) c.loop-rule.invariant
          ∙ item_kept test rules i 0 c.loop-rule-test.true (ap not (sym c.has_guard.ensures ∙ w.if-not-has_guard.true))
      | else-not-has_guard w ↦ ap (λ v. v.items) w.rules-is ∙ c.loop-rule.invariant
          ∙ item_left test rules i 0 c.loop-rule-test.true (ap not (sym c.has_guard.ensures ∙ w.if-not-has_guard.false))
    ]
