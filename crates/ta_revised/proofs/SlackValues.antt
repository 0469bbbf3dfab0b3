-- what an assignment and a system say of the row at a place
use Rattle.ta_revised.proofs.Common.{ℕ, zero, suc, ◌+◌, ◌≡◌, List, [], ◌∷◌, arith, ap, ◌∙◌, subst, ℤ, Some, slice_get, AllBelow, IsNormal, Row}
use Rattle.std.proofs.lemmas.Option.{none-some, same_Some}
use Rattle.ta_dense.specs.Slack.{SlacksFollow, slack_at}

-- a slack follows its row
pub follow_at : (rs : List Row) (first : ℕ) (sigma : ℤ) (value : ℕ → ℤ) (k : ℕ) (r : Row) → SlacksFollow rs first sigma value → slice_get rs k ≡ Some r
    → value (first + k) ≡ slack_at r sigma value
follow_at [] first sigma value k r f e = absurd (none-some r e)
follow_at (x ∷ rs) first sigma value zero r f e =
    let same : x ≡ r = same_Some x r e in
    let place : first + 0 ≡ first = omega arith in
    ap value place ∙ f.0 ∙ ap (λ (y : Row). slack_at y sigma value) same
follow_at (x ∷ rs) first sigma value (suc k) r f e =
    let place : first + suc k ≡ suc first + k = omega arith in
    ap value place ∙ follow_at rs (suc first) sigma value k r f.1 e

-- the row's variables are unknowns
pub below_at : (n : ℕ) (rs : List Row) (k : ℕ) (r : Row) → AllBelow n rs → slice_get rs k ≡ Some r → IsNormal 0 n r.form.terms
below_at n [] k r below e = absurd (none-some r e)
below_at n (x ∷ rs) zero r below e = subst (λ (y : Row). IsNormal 0 n y.form.terms) (same_Some x r e) below.0
below_at n (x ∷ rs) (suc k) r below e = below_at n rs k r below.1 e
