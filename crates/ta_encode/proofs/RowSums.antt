-- a row's value as a sum over the unknowns, and Farkas' lemma for rows of words
use Rattle.ta_encode.proofs.Common.{◌≡◌, ℕ, zero, suc, ℤ, pos, ◌+ℤ◌, ◌*ℤ◌, ◌≤ℤ◌, List, [], ◌∷◌, length, slice_get, get_or, Some, None, Option, arith, sym, ap}
use Rattle.ta_encode.proofs.Common.{refl, ints, zero-*ℤ, range_sum, range_sum-front, range_sum-zero, LinearRow, sum_of_products, row_value, AllHold}
use Rattle.ta_encode.proofs.Common.{linear_coefficient_in, linear_constant_in, LeafOfRows, total}
use Rattle.ta_linear.proofs.Farkas.{leaf_refutes}

-- the values of a list, 0 past its end
abbrev pub value_at : List ℕ → ℕ → ℤ
value_at vs u = pos (get_or vs u 0)

pub combine-range : (cs : List ℤ) (vs : List ℕ) → sum_of_products cs vs ≡ range_sum (λ u. get_or cs u (pos 0) *ℤ value_at vs u) (length vs)
unfolding sum_of_products range_sum total
combine-range [] vs = sym (range_sum-zero (λ u. pos 0 *ℤ value_at vs u) (length vs) (λ u _. zero-*ℤ (value_at vs u)))
combine-range (c ∷ cs) [] = refl
combine-range (c ∷ cs) (v ∷ vs) =
    omega (arith, ints, combine-range cs vs, range_sum-front (λ u. get_or (c ∷ cs) u (pos 0) *ℤ value_at (v ∷ vs) u) (length vs))

value_in : List ℕ → Option LinearRow → ℤ
value_in vs None = pos 0
value_in vs (Some row) = row_value vs row

value_in-sum : (vs : List ℕ) (o : Option LinearRow) → value_in vs o ≡
    (linear_constant_in o +ℤ range_sum (λ u. linear_coefficient_in u o *ℤ value_at vs u) (length vs))
unfolding value_in
value_in-sum vs None = omega (arith, ints, range_sum-zero (λ u. pos 0 *ℤ value_at vs u) (length vs) (λ u _. zero-*ℤ (value_at vs u)))
value_in-sum vs (Some row) = ap (λ z. row.constant +ℤ z) (combine-range row.coefficients vs)

value_in-nonnegative : (vs : List ℕ) (rows : List LinearRow) (k : ℕ) → AllHold vs rows → pos 0 ≤ℤ value_in vs (slice_get rows k)
unfolding value_in
value_in-nonnegative vs [] k h = omega (arith, ints)
value_in-nonnegative vs (r ∷ rs) zero h = h.0
value_in-nonnegative vs (r ∷ rs) (suc k) h = value_in-nonnegative vs rs k h.1

-- rows that have a leaf don't all hold
pub leaf_contradicts : (rows : List LinearRow) (ts : List (ℕ × ℤ)) (vs : List ℕ) → LeafOfRows rows ts → AllHold vs rows → ⊥
leaf_contradicts rows ts vs leaf h =
    leaf_refutes linear_coefficient_in linear_constant_in rows ts leaf (value_in vs) (value_at vs) (length vs) (record {
      natural = λ u. omega (arith, ints);
      sums = λ k. value_in-sum vs (slice_get rows k);
      hold = λ k. value_in-nonnegative vs rows k h;
    })
