use Rattle.ta_moment_tree.proofs.Common.{ℕ, ℤ, pos, ◌≡◌, ◌∙◌, ◌++◌, ◌∷◌, [], List, get_or, arith, ap, sym, not, Bool, to_z, of_z, w128, to_z_abs, is_silent}
use Rattle.ta_moment_tree.proofs.Lists.{item_kept, item_left}
use Rattle.ta_moment_tree.proofs.Sums.{factor_small}
use Rattle.ta_moment_tree.proofs.silence.loud_terms.Goals.{then-not-is_silent+in_ok-push, else-not-is_silent}
use Rattle.ta_moment_tree.proofs.silence.loud_terms.Goals as goal

pub loop-place-preserved : goal.loop-place-preserved
loop-place-preserved c =
    let ts = c.args.terms.now in
    let i = c.loop-place.place-index in
    let test : (ℕ × ℤ) → Bool = λ t. not (is_silent c.args.silent.now t.0) in
    let t = get_or ts i (0, pos 0) in
    let same : to_z w128 (of_z w128 t.1) ≡ t.1 = to_z_abs t.1 1000000000 (factor_small ts i c.requires.small c.loop-place-test.true) (omega arith) in
    elim c.if-not-is_silent.branch [
      | then-not-is_silent+in_ok-push w ↦
          ap (λ v. v.items) w.loud-is ∙ w.in_ok-push.ensures.items ∙ ap (λ (z : ℤ). c.loop-place.loud.items ++ (t.0, z) ∷ []) same
          ∙ ap (λ (xs : List (ℕ × ℤ)). xs ++ t ∷ []) c.loop-place.invariant
          ∙ item_kept test ts i (0, pos 0) c.loop-place-test.true (ap not (sym c.is_silent.ensures ∙ w.if-not-is_silent.true))
      | else-not-is_silent w ↦ ap (λ v. v.items) w.loud-is ∙ c.loop-place.invariant
          ∙ item_left test ts i (0, pos 0) c.loop-place-test.true (ap not (sym c.is_silent.ensures ∙ w.if-not-is_silent.false))
    ]
