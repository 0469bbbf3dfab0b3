use Rattle.ta_moment_tree.proofs.Common.{ℕ, ◌∙◌, map, ap, opposite_form, vector_of}
use Rattle.ta_moment_tree.proofs.Adding.{adds_same}
use Rattle.ta_moment_tree.proofs.plain.push_never.Goals as goal

pub returns : goal.returns
returns c =
    adds_same _ _ _ _ (ap (map (λ (r : ℕ). opposite_form (vector_of c.args.end.now r))) (c.as_slice-rules.ensures.value ∙ c.in_ok-needed.ensures))
    c.in_ok-push_opposites.ensures
