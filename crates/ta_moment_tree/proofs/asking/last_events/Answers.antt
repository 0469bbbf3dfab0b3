use Rattle.ta_moment_tree.proofs.Common.{ℕ, Bool, List, Option, Some, ◌++◌, ◌∷◌, [], not, sym, ap, ◌∙◌, passed_none, passed_one, has_later}
use Rattle.ta_moment_tree.proofs.asking.last_events.Goals.{then-not-has_later+in_ok-push, else-not-has_later}
use Rattle.ta_moment_tree.proofs.asking.last_events.Goals as goal

pub loop-event-preserved : goal.loop-event-preserved
loop-event-preserved c =
    let e = c.loop-event.event in
    let test : ℕ → Bool = λ k. not (has_later c.args.pattern.now k) in
    elim c.if-not-has_later.branch [
      | then-not-has_later+in_ok-push w ↦
          ap (λ v. v.items) w.events-is ∙ w.in_ok-push.ensures.items ∙ ap (λ (es : List (Option ℕ)). es ++ Some e ∷ []) c.loop-event.invariant
          ∙ passed_one Some test e (ap not (sym c.has_later.ensures ∙ w.if-not-has_later.true))
      | else-not-has_later w ↦ ap (λ v. v.items) w.events-is ∙ c.loop-event.invariant
          ∙ passed_none Some test e (ap not (sym c.has_later.ensures ∙ w.if-not-has_later.false))
    ]
