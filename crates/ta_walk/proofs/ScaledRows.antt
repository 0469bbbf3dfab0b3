-- the values of a vertex times their denominator meet its rows too, where no row has a positive constant
use Rattle.ta_walk.proofs.Common.{zero-*ℤ, IsSomeAnd, *ℤ_comm, cancel_positive, ge-zero_of_mul, mul-ge-zero, Pairwise, IsNormal-le, IsNormal, AreRowsOf}
use Rattle.ta_walk.proofs.Common.{row_of_form, IsNumberOver, Fraction}
use Rattle.ta_moments.proofs.Common.{◌≡◌, ℕ, zero, suc, ◌+◌, ◌<◌, ℤ, pos, ◌+ℤ◌, ◌-ℤ◌, ◌*ℤ◌, ◌≤ℤ◌, ◌<ℤ◌, List, [], ◌∷◌, ◌++◌, map, length, get_or, slice_get}
use Rattle.ta_moments.proofs.Common.{arith, ints, sym, ap, ◌∙◌, All, AllByRecursion, distributes, distributes_right, minus_times, one_times}
use Rattle.ta_moments.proofs.Common.{times_assoc, *ℤ-zero, terms_value, Row, RowHolds, UnknownForm}
use Rattle.ta_base.proofs.Integers.{mul-le-zero_turned, mul_left_comm}
use Rattle.ta_linear.specs.Rows.{AllBelow}
use Rattle.ta_dense.specs.Slack.{slack_at}
use Rattle.ta_simplex.specs.Vertex.{parts_of}

-- ---- fractions
-- a fraction is x over q and v over d
pub same_fraction : (x v q d t b : ℤ) → pos 0 <ℤ b → (x *ℤ b) ≡ (q *ℤ t) → (v *ℤ b) ≡ (d *ℤ t) → (x *ℤ d) ≡ (q *ℤ v)
same_fraction x v q d t b positive one two =
    cancel_positive b (x *ℤ d) (q *ℤ v) positive (
    mul_left_comm b x d ∙ sym (times_assoc x b d) ∙ ap (λ (z : ℤ). z *ℤ d) one ∙ times_assoc q t d
    ∙ ap (λ (z : ℤ). q *ℤ z) (*ℤ_comm t d ∙ sym two ∙ *ℤ_comm v b)
    ∙ mul_left_comm q b v
    )

-- the number of a fraction
pub over_at : (d : ℤ) (fs : List Fraction) (zs : List ℤ) → Pairwise (IsNumberOver d) (parts_of fs) zs → (u : ℕ) → u < length fs
    → IsSomeAnd (slice_get fs u) (λ f. get_or zs u (pos 0) *ℤ f.bottom ≡ d *ℤ f.top)
over_at d [] zs p u h = absurd (omega arith)
over_at d (f ∷ fs) [] p u h = absurd p
over_at d (f ∷ fs) (z ∷ zs) p zero h = p.0
over_at d (f ∷ fs) (z ∷ zs) p (suc u) h = over_at d fs zs p.1 u (omega arith)

-- ---- rows
next_over : (t x v xs vs q d : ℤ) → (x *ℤ d) ≡ (q *ℤ v) → (xs *ℤ d) ≡ (q *ℤ vs) → (((t *ℤ x) +ℤ xs) *ℤ d) ≡ (q *ℤ ((t *ℤ v) +ℤ vs))
next_over t x v xs vs q d one more =
    let first : (t *ℤ (x *ℤ d)) ≡ (t *ℤ (q *ℤ v)) = ap (λ (z : ℤ). t *ℤ z) one in
    omega (arith, ints, distributes_right (t *ℤ x) xs d, times_assoc t x d, first, mul_left_comm t q v, distributes q (t *ℤ v) vs, more)

terms_over : (low n : ℕ) (ts : List (ℕ × ℤ)) (x v : ℕ → ℤ) (q d : ℤ) → IsNormal low n ts → ((u : ℕ) → u < n → (x u *ℤ d) ≡ (q *ℤ v u))
    → (terms_value x ts *ℤ d) ≡ (q *ℤ terms_value v ts)
terms_over low n [] x v q d normal same = zero-*ℤ d ∙ sym (*ℤ-zero q)
terms_over low n (t ∷ ts) x v q d normal same =
    next_over t.1 (x t.0) (v t.0) (terms_value x ts) (terms_value v ts) q d (same t.0 (let above = IsNormal-le (t.0 + 1) n ts normal.2 in omega (arith, above)))
    (terms_over (t.0 + 1) n ts x v q d normal.2 same)

-- a sum that is met over a scale is met at the scaled numbers
met_over : (c x v : ℤ) (q d : ℕ) → 0 < q → 0 < d → c ≤ℤ pos 0 → (x *ℤ pos d) ≡ (pos q *ℤ v) → pos 0 ≤ℤ (x +ℤ (pos q *ℤ c)) → pos 0 ≤ℤ (c +ℤ v)
met_over c x v q d some more low same met =
    let least = mul-le-zero_turned (pos q) c (omega (arith, ints)) low in
    let natural : pos 0 ≤ℤ x = omega (arith, ints, least, met) in
    let larger = mul-ge-zero (pos d -ℤ pos 1) x (omega (arith, ints, more)) natural in
    let product : pos 0 ≤ℤ (pos q *ℤ (c +ℤ v)) =
    omega (arith, ints, larger, minus_times (pos d) (pos 1) x, one_times x, *ℤ_comm (pos d) x, same, distributes (pos q) c v, met) in
    ge-zero_of_mul (pos q) (c +ℤ v) (omega (arith, ints, some)) product

row_over : (n : ℕ) (r : Row) (x v : ℕ → ℤ) (q d : ℕ) → 0 < q → 0 < d → IsNormal 0 n r.form.terms → ((u : ℕ) → u < n → (x u *ℤ pos d) ≡ (pos q *ℤ v u))
    → r.form.constant ≤ℤ pos 0 → pos 0 ≤ℤ slack_at r (pos q) x → RowHolds v r
row_over n r x v q d some more normal same low met =
    met_over r.form.constant (terms_value x r.form.terms) (terms_value v r.form.terms) q d some more low
    (terms_over 0 n r.form.terms x v (pos q) (pos d) normal same) met

pub rows_over : (n m : ℕ) (fs : List UnknownForm) (rs : List Row) (x v : ℕ → ℤ) (q d : ℕ) → 0 < q → 0 < d → ((u : ℕ) → u < n → (x u *ℤ pos d) ≡ (pos q *ℤ v u))
    → AllBelow n rs → AreRowsOf (map (row_of_form m) fs ++ []) rs → AllByRecursion (λ (f : UnknownForm). f.constant ≤ℤ pos 0) fs
    → All (λ r. pos 0 ≤ℤ slack_at r (pos q) x) rs → All (RowHolds v) rs
rows_over n m [] [] x v q d some more same below is low met k e inside = absurd (omega arith)
rows_over n m [] (r ∷ rs) x v q d some more same below is low met k e inside = absurd is
rows_over n m (f ∷ fs) [] x v q d some more same below is low met k e inside = absurd is
rows_over n m (f ∷ fs) (r ∷ rs) x v q d some more same below is low met zero e inside =
    row_over n r x v q d some more below.0 same (let one = is.0 in omega (arith, ints, one.constant, low.0)) (met 0 r (omega arith))
rows_over n m (f ∷ fs) (r ∷ rs) x v q d some more same below is low met (suc k) e inside =
    rows_over n m fs rs x v q d some more same below.1 is.1 low.1 (λ j b h. met (suc j) b (omega arith)) k e (omega arith)
