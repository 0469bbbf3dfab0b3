use Rattle.ta_moment_tree.proofs.Common.{ℕ, Bool, List, ◌++◌, ◌∷◌, [], slice_get, sym, ap, ◌∙◌, passed_none, passed_one, has_guard, Fact, Vacant, Fails}
use Rattle.ta_moment_tree.proofs.answers.stuck_answers.Goals.{then-has_guard+in_ok-push-2, else-has_guard}
use Rattle.ta_moment_tree.proofs.answers.stuck_answers.Goals as goal

pub loop-guard-preserved : goal.loop-guard-preserved
loop-guard-preserved c =
    let r = c.args.rule in
    let a = c.args.automaton.now in
    let g = c.loop-guard.guard in
    let test : ℕ → Bool = λ k. has_guard a k (slice_get a.rules r) in
    elim c.if-has_guard.branch [
      | then-has_guard+in_ok-push-2 w ↦
          ap (λ v. v.items) w.facts-is ∙ w.in_ok-push-2.ensures.items ∙ ap (λ (fs : List Fact). fs ++ Fails r g ∷ []) c.loop-guard.invariant
          ∙ ap (λ (fs : List Fact). Vacant r ∷ fs) (passed_one (Fails r) test g (sym c.has_guard.ensures ∙ w.if-has_guard.true))
      | else-has_guard w ↦
          ap (λ v. v.items) w.facts-is ∙ c.loop-guard.invariant
          ∙ ap (λ (fs : List Fact). Vacant r ∷ fs) (passed_none (Fails r) test g (sym c.has_guard.ensures ∙ w.if-has_guard.false))
    ]
