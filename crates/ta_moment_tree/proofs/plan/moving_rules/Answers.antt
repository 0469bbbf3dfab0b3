use Rattle.ta_moment_tree.proofs.Common.{ℕ, Bool, List, ◌++◌, ◌∷◌, [], sym, ap, ◌∙◌, slice_get, is_moving}
use Rattle.ta_moment_tree.proofs.Lists.{filter_kept, filter_left}
use Rattle.ta_moment_tree.proofs.plan.moving_rules.Goals.{then-is_moving+in_ok-push, else-is_moving}
use Rattle.ta_moment_tree.proofs.plan.moving_rules.Goals as goal

pub loop-rule-preserved : goal.loop-rule-preserved
loop-rule-preserved c =
    let r = c.loop-rule.rule in
    let test : ℕ → Bool = λ k. is_moving c.args.pattern.now (slice_get c.args.automaton.now.rules k) in
    elim c.if-is_moving.branch [
      | then-is_moving+in_ok-push w ↦
          ap (λ v. v.items) w.rules-is ∙ w.in_ok-push.ensures.items ∙ ap (λ (ks : List ℕ). ks ++ r ∷ []) c.loop-rule.invariant
          ∙ filter_kept test r (sym c.is_moving.ensures ∙ w.if-is_moving.true)
      | else-is_moving w ↦ ap (λ v. v.items) w.rules-is ∙ c.loop-rule.invariant ∙ filter_left test r (sym c.is_moving.ensures ∙ w.if-is_moving.false)
    ]
