-- Farkas' lemma, in the direction that a refutation rests on
use Rattle.ta_linear.proofs.Common.{◌≡◌, ℕ, zero, suc, ◌+◌, ℤ, pos, ◌+ℤ◌, ◌*ℤ◌, ◌≤ℤ◌, List, [], ◌∷◌, length, slice_get, slice_index, Some, None, Option, arith}
use Rattle.ta_linear.proofs.Common.{ap, ◌∙◌, ints, zero-*ℤ, distributes, distributes_right, mul-ge-zero, mul-le-zero, range_sum, times_assoc, range_sum-add}
use Rattle.ta_linear.proofs.Common.{range_sum-nonpositive, range_sum-same, range_sum-times, range_sum-zero, value_of, RowHolds, Solves, Row}
use Rattle.std.specs.List.{All}
use Rattle.ta_linear.specs.Rows.{AllBelow}
use Rattle.ta_linear.specs.Leaf.{weighted, AreMultipliers, Leaf, coefficient_in, constant_in, LeafOf}
use Rattle.ta_linear.specs.declared.row.System.{System}
use Rattle.ta_linear.proofs.RangeSum.{terms_value-sum}

-- rows whose values, at natural values of n unknowns, are at least 0
pub record Meets {R : Type 0} (coefficient_of : ℕ → Option R → ℤ) (constant_of : Option R → ℤ) (rows : List R) (value_in : Option R → ℤ) (v : ℕ → ℤ) (n : ℕ) :
    Type 0 where
  pub natural : (x : ℕ) → pos 0 ≤ℤ v x
  pub sums : (k : ℕ) → value_in (slice_get rows k) ≡ (constant_of (slice_get rows k) +ℤ range_sum (λ x. coefficient_of x (slice_get rows k) *ℤ v x) n)
  pub hold : (k : ℕ) → pos 0 ≤ℤ value_in (slice_get rows k)

weighted-sum : {R : Type 0} (coefficient_of : ℕ → Option R → ℤ) (constant_of : Option R → ℤ) (rows : List R) (value_in : Option R → ℤ) (v : ℕ → ℤ) (n : ℕ)
    → Meets coefficient_of constant_of rows value_in v n → (ts : List (ℕ × ℤ))
    → weighted value_in rows ts ≡ (weighted constant_of rows ts +ℤ range_sum (λ x. weighted (coefficient_of x) rows ts *ℤ v x) n)
unfolding weighted
weighted-sum coefficient_of constant_of rows value_in v n m [] = omega (arith, ints, range_sum-zero (λ x. pos 0 *ℤ v x) n (λ x _. zero-*ℤ (v x)))
weighted-sum coefficient_of constant_of rows value_in v n m (t ∷ ts) =
    let o = slice_get rows t.0 in
    let row = ap (λ z. t.1 *ℤ z) (m.sums t.0) ∙ distributes t.1 (constant_of o) (range_sum (λ x. coefficient_of x o *ℤ v x) n) in
    let times = range_sum-times t.1 (λ x. coefficient_of x o *ℤ v x) n in
    let same = range_sum-same (λ x. ((t.1 *ℤ coefficient_of x o) +ℤ weighted (coefficient_of x) rows ts) *ℤ v x)
    (λ x. (t.1 *ℤ (coefficient_of x o *ℤ v x)) +ℤ (weighted (coefficient_of x) rows ts *ℤ v x)) n
    (λ x _. distributes_right (t.1 *ℤ coefficient_of x o) (weighted (coefficient_of x) rows ts) (v x)
    ∙ ap (λ z. z +ℤ (weighted (coefficient_of x) rows ts *ℤ v x)) (times_assoc t.1 (coefficient_of x o) (v x))) in
    let parts = range_sum-add (λ x. t.1 *ℤ (coefficient_of x o *ℤ v x)) (λ x. weighted (coefficient_of x) rows ts *ℤ v x) n in
    omega (arith, ints, row, times, same, parts, weighted-sum coefficient_of constant_of rows value_in v n m ts)

weighted-nonnegative : {R : Type 0} (value_in : Option R → ℤ) (rows : List R) (low count : ℕ) (ts : List (ℕ × ℤ))
    → ((k : ℕ) → pos 0 ≤ℤ value_in (slice_get rows k)) → AreMultipliers low count ts → pos 0 ≤ℤ weighted value_in rows ts
unfolding weighted
weighted-nonnegative value_in rows low count [] h ms = omega (arith, ints)
weighted-nonnegative value_in rows low count (t ∷ ts) h ms =
    omega (
      arith,
      ints,
      mul-ge-zero t.1 (value_in (slice_get rows t.0)) (omega (arith, ints, ms.2)) (h t.0),
      weighted-nonnegative value_in rows (t.0 + 1) count
          ts h ms.3,
    )

-- rows that have a leaf aren't all at least 0
pub leaf_refutes : {R : Type 0} (coefficient_of : ℕ → Option R → ℤ) (constant_of : Option R → ℤ) (rows : List R) (ts : List (ℕ × ℤ))
    → Leaf coefficient_of constant_of rows ts → (value_in : Option R → ℤ) (v : ℕ → ℤ) (n : ℕ) → Meets coefficient_of constant_of rows value_in v n → ⊥
leaf_refutes coefficient_of constant_of rows ts leaf value_in v n m =
    let sum = weighted-sum coefficient_of constant_of rows value_in v n m ts in
    let more = weighted-nonnegative value_in rows 0 (length rows) ts m.hold leaf.multipliers in
    let less = range_sum-nonpositive (λ x. weighted (coefficient_of x) rows ts *ℤ v x) n (λ x _. mul-le-zero _ _ (leaf.none_positive x) (m.natural x)) in
    absurd (let below = leaf.negative in omega (arith, ints))

value_in : (ℕ → ℤ) → Option Row → ℤ
value_in v None = pos 0
value_in v (Some row) = value_of v row.form

-- a row's value is its constant and the sum over the unknowns
value_in-sum : (v : ℕ → ℤ) (n : ℕ) (rows : List Row) (k : ℕ) → AllBelow n rows
    → value_in v (slice_get rows k) ≡ (constant_in (slice_get rows k) +ℤ range_sum (λ x. coefficient_in x (slice_get rows k) *ℤ v x) n)
unfolding value_in
value_in-sum v n [] k h = omega (arith, ints, range_sum-zero (λ x. pos 0 *ℤ v x) n (λ x _. zero-*ℤ (v x)))
value_in-sum v n (r ∷ rs) zero h = ap (λ z. r.form.constant +ℤ z) (terms_value-sum v 0 n r.form.terms h.0)
value_in-sum v n (r ∷ rs) (suc k) h = value_in-sum v n rs k h.1

value_in-nonnegative : (v : ℕ → ℤ) (rows : List Row) (k : ℕ) → All (RowHolds v) rows → pos 0 ≤ℤ value_in v (slice_get rows k)
unfolding value_in
value_in-nonnegative v [] k h = omega (arith, ints)
value_in-nonnegative v (r ∷ rs) zero h = h 0 r (omega arith)
value_in-nonnegative v (r ∷ rs) (suc k) h = value_in-nonnegative v rs k (λ j d b. h (suc j) d (omega arith))

-- a system that has a leaf has no natural solution
pub leaf_unsolved : (system : System) (ts : List (ℕ × ℤ)) → LeafOf system ts → (values : List ℕ) → Solves system values → ⊥
leaf_unsolved system ts leaf values solves =
    let v : ℕ → ℤ = λ x. pos (slice_index values x) in
    leaf_refutes coefficient_in constant_in system.rows ts leaf (value_in v) v system.unknowns (record {
      natural = λ x. omega (arith, ints);
      sums = λ k. value_in-sum v system.unknowns system.rows k system.within;
      hold = λ k. value_in-nonnegative v system.rows k solves.rows_hold;
    })
