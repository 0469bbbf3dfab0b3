-- the check of multipliers over systems of the same numbers
use Rattle.ta_farkas.proofs.Common.{◌≡◌, ℕ, zero, suc, List, [], ◌∷◌, refl, ap, ◌∙◌, cond, nat_lt, ℤ, slice_get, part_in, entry, Row, System}
use Rattle.ta_linear.specs.Terms.{coefficient}
use Rattle.ta_linear.specs.SameNumbers.{RowsAlike, SameNumbers}

part_alike : (n column : ℕ) (rs qs : List Row) (k : ℕ) → RowsAlike rs qs → part_in n column (slice_get rs k) ≡ part_in n column (slice_get qs k)
part_alike n column [] [] k same = refl
part_alike n column [] (q ∷ qs) k same = absurd same
part_alike n column (r ∷ rs) [] k same = absurd same
part_alike n column (r ∷ rs) (q ∷ qs) zero same =
    ap (λ (z : ℤ). cond (nat_lt column n) z r.form.constant) (same.0.coefficients column)
    ∙ ap (λ (z : ℤ). cond (nat_lt column n) (coefficient q.form.terms column) z) same.0.constant
part_alike n column (r ∷ rs) (q ∷ qs) (suc k) same = part_alike n column rs qs k same.1

pub entry_alike : (s z : System) → SameNumbers s z → (column k : ℕ) → entry s column k ≡ entry z column k
entry_alike s z same column k = part_alike s.unknowns column s.rows z.rows k same.rows ∙ ap (λ (n : ℕ). part_in n column (slice_get z.rows k)) same.unknowns
