-- what stands behind a text at the beginning of another
use Rattle.ta_program.proofs.Common.{◌≡◌, ◌∙◌, ℕ, Bool, true, false, List, [], ◌∷◌, ◌++◌, refl, sym, ap, None, Some, ◌==◌, if◌then◌else◌, eqb-true, behind}
use Rattle.ta_base.proofs.Naturals.{eqb_same}

pub behind_prefix : (text rest : List ℕ) → behind text (text ++ rest) ≡ Some rest
behind_prefix [] rest = refl
behind_prefix (c ∷ cs) rest = rw (eqb_same c) (behind_prefix cs rest)

by_head : (b : Bool) (cs ds : List ℕ) → (b ≡ true → behind cs ds ≡ None) → (if b then behind cs ds else None) ≡ None
by_head true cs ds none = none refl
by_head false cs ds none = refl

pub behind_none : (text word : List ℕ) → ((rest : List ℕ) → word ≡ text ++ rest → ⊥) → behind text word ≡ None
behind_none [] word other = absurd (other word refl)
behind_none (c ∷ cs) [] other = refl
behind_none (c ∷ cs) (d ∷ ds) other =
    by_head (c == d) cs ds (λ is. behind_none cs ds
    (λ rest eqb_same. other rest (ap (λ (x : ℕ). x ∷ ds) (sym (eqb-true c d is)) ∙ ap (λ (xs : List ℕ). c ∷ xs) eqb_same)))
