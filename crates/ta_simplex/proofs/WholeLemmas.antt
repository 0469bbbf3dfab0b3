-- where all values of a vertex are whole, they solve the system
use Rattle.ta_simplex.proofs.Common.{◌≡◌, ℕ, zero, suc, ◌+◌, ◌<◌, List, [], ◌∷◌, length, arith, ap, subst, ℤ, pos, ◌*ℤ◌, ◌≤ℤ◌, Option, Some, None, slice_get}
use Rattle.ta_simplex.proofs.Common.{All, IsSomeAnd, slice_index, ints, expand, ge-zero_of_mul, quotient_whole, mul-le-zero_turned, ◌-ℤ◌, terms_value-same}
use Rattle.ta_simplex.proofs.Common.{IsNormal, AllBelow, terms_value, value_of, RowHolds, Solves, Row, System, IsNormal-le, slack_at, MeetRows, Fraction}

pub some_both : (o : Option Fraction) (P Q : Fraction → Type 0) (C : Type 0) → IsSomeAnd o P → IsSomeAnd o Q → ((f : Fraction) → P f → Q f → C) → C
some_both None P Q C p q g = absurd p
some_both (Some f) P Q C p q g = g f p q

terms_scaled : (low n : ℕ) (ts : List (ℕ × ℤ)) (x v : ℕ → ℤ) (q : ℤ) → IsNormal low n ts → ((u : ℕ) → u < n → x u ≡ q *ℤ v u)
    → terms_value x ts ≡ q *ℤ terms_value v ts
terms_scaled low n [] x v q normal same = omega (arith, ints)
terms_scaled low n (t ∷ ts) x v q normal same =
    let first = ap (λ (z : ℤ). t.1 *ℤ z) (same t.0 (let h = IsNormal-le (t.0 + 1) n ts normal.2 in omega arith)) in
    let rest = terms_scaled (t.0 + 1) n ts x v q normal.2 same in
    simp expand (omega (arith, ints, simp expand at first, rest))

row_scaled : (n : ℕ) (r : Row) (x v : ℕ → ℤ) (q : ℕ) → 0 < q → IsNormal 0 n r.form.terms → ((u : ℕ) → u < n → x u ≡ pos q *ℤ v u)
    → pos 0 ≤ℤ slack_at r (pos q) x → RowHolds v r
row_scaled n r x v q some normal same h =
    let e = terms_scaled 0 n r.form.terms x v (pos q) normal same in
    let is : slack_at r (pos q) x ≡ pos q *ℤ value_of v r.form = simp expand (omega (arith, ints, e)) in
    ge-zero_of_mul (pos q) (value_of v r.form) (omega (arith, ints, some)) (subst (λ (z : ℤ). pos 0 ≤ℤ z) is h)

rows_scaled : (n : ℕ) (rs : List Row) (x v : ℕ → ℤ) (q : ℕ) → 0 < q → AllBelow n rs → ((u : ℕ) → u < n → x u ≡ pos q *ℤ v u)
    → All (λ r. pos 0 ≤ℤ slack_at r (pos q) x) rs → All (RowHolds v) rs
rows_scaled n [] x v q some below same h k d inside = absurd (omega arith)
rows_scaled n (r ∷ rs) x v q some below same h zero d inside = row_scaled n r x v q some below.0 same (h 0 r (omega arith))
rows_scaled n (r ∷ rs) x v q some below same h (suc k) d inside = rows_scaled n rs x v q some below.1 same (λ j e b. h (suc j) e (omega arith)) k d
    (omega arith)

pub whole_vertex_solves : (s : System) (values : List Fraction) (numbers : List ℕ) → MeetRows s values → length numbers ≡ s.unknowns →
    ((x : ℕ) → x < s.unknowns → IsSomeAnd (slice_get values x) (λ f. f.top ≡ pos (slice_index numbers x) *ℤ f.bottom)) → Solves s numbers
whole_vertex_solves s values numbers m count all =
    let v = λ (x : ℕ). pos (slice_index numbers x) in
    record {
      count = count;
      rows_hold = rows_scaled s.unknowns s.rows m.numbers v m.scale m.some s.within
          (λ x h. some_both (slice_get values x) (λ f. m.numbers x *ℤ f.bottom ≡ pos m.scale *ℤ f.top) (λ f. f.top ≡ pos (slice_index numbers x) *ℤ f.bottom)
          (m.numbers x ≡ pos m.scale *ℤ pos (slice_index numbers x)) (m.over_scale x h) (all x h)
          (λ f e is. quotient_whole (m.numbers x) (pos m.scale) (pos (slice_index numbers x)) f.top f.bottom f.positive e is))
          m.rows_hold;
    }

row_unscaled : (n : ℕ) (r : Row) (x v : ℕ → ℤ) (q : ℕ) → 0 < q → IsNormal 0 n r.form.terms → ((u : ℕ) → u < n → x u ≡ v u) → r.form.constant ≤ℤ pos 0
    → pos 0 ≤ℤ slack_at r (pos q) x → RowHolds v r
row_unscaled n r x v q some normal same low h =
    let e = terms_value-same 0 n r.form.terms x v normal same in
    let less = mul-le-zero_turned (pos q -ℤ pos 1) r.form.constant (omega (arith, ints, some)) low in
    omega (arith, ints, e, simp expand at less, h)

rows_unscaled : (n : ℕ) (rs : List Row) (x v : ℕ → ℤ) (q : ℕ) → 0 < q → AllBelow n rs → ((u : ℕ) → u < n → x u ≡ v u)
    → All (λ (r : Row). r.form.constant ≤ℤ pos 0) rs → All (λ r. pos 0 ≤ℤ slack_at r (pos q) x) rs → All (RowHolds v) rs
rows_unscaled n [] x v q some below same low h k d inside = absurd (omega arith)
rows_unscaled n (r ∷ rs) x v q some below same low h zero d inside = row_unscaled n r x v q some below.0 same (low 0 r (omega arith)) (h 0 r (omega arith))
rows_unscaled n (r ∷ rs) x v q some below same low h (suc k) d inside = rows_unscaled n rs x v q some below.1 same (λ j e b. low (suc j) e (omega arith))
    (λ j e b. h (suc j) e (omega arith)) k d (omega arith)

pub scaled_vertex_solves : (s : System) (values : List Fraction) (m : MeetRows s values) → All (λ (r : Row). r.form.constant ≤ℤ pos 0) s.rows
    → (numbers : List ℕ) → length numbers ≡ s.unknowns →
    ((x : ℕ) → x < s.unknowns → m.numbers x ≡ pos (slice_index numbers x)) → Solves s numbers
scaled_vertex_solves s values m low numbers count are = record {
  count = count;
  rows_hold = rows_unscaled s.unknowns s.rows m.numbers (λ (x : ℕ). pos (slice_index numbers x)) m.scale m.some s.within are low m.rows_hold;
}
