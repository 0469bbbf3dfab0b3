-- a system has a row twice: the slacks of both have one value
use Rattle.ta_dense.proofs.Common.{◌≡◌, ◌≢◌, inl, inr, ℕ, suc, ◌+◌, ◌<◌, List, [], ◌∷◌, ◌++◌, length, arith, sym, ap, ◌∙◌, subst, ℤ, pos, ◌*ℤ◌, ◌<ℤ◌, ◌≤ℤ◌}
use Rattle.ta_dense.proofs.Common.{ints, length-append, ge-zero_of_mul, lt-zero_of_mul, mul-ge-zero, mul-lt-zero, Row, System, Tableau, row_of, basic_of}
use Rattle.ta_dense.proofs.Common.{non_basic_of, IsDictionary, dot, IsAssignment, SlacksFollow, variables}
use Rattle.ta_dense.specs.Leaving.{Leaves}
use Rattle.ta_dense.specs.Laws.{DictionaryOf}
use Rattle.ta_dense.proofs.Dot.{dot-scaled}
use Rattle.ta_dense.proofs.Unique.{dot-nothing}

follow_rest : (before rest : List Row) (u : ℕ) (scale : ℤ) (value : ℕ → ℤ) → SlacksFollow (before ++ rest) u scale value
    → SlacksFollow rest (u + length before) scale value
follow_rest [] rest u scale value f =
    let e : u + 0 ≡ u = omega arith in
    subst (λ (v : ℕ). SlacksFollow rest v scale value) (sym e) f
follow_rest (b ∷ before) rest u scale value f =
    let e : suc u + length before ≡ u + suc (length before) = omega arith in
    subst (λ (v : ℕ). SlacksFollow rest v scale value) e (follow_rest before rest (suc u) scale value f.1)

-- where each non-basic variable is 0, the sign of a basic one is that of its row's constant
at_vertex : (A : ℤ → (ℕ → ℤ) → Type 0) (n : ℕ) (t : Tableau) (m : ℕ) (value : ℕ → ℤ) → IsDictionary A n t → A (pos m *ℤ pos 1) value
    → ((j : ℕ) → j < length t.non_basic → value (non_basic_of t j) ≡ pos m *ℤ pos 0) →
    (i : ℕ) → i < length t.rows → (row_of t i).denominator *ℤ value (basic_of t i) ≡ pos m *ℤ (row_of t i).constant
at_vertex A n t m value d a zero i h =
    let none : dot (row_of t i).cells t.non_basic value ≡ pos 0 = dot-scaled (row_of t i).cells t.non_basic value (λ _. pos 0) (pos m) zero
    ∙ ap (λ (z : ℤ). pos m *ℤ z) (dot-nothing (row_of t i).cells t.non_basic) ∙ omega (arith, ints) in
    let one : pos m *ℤ pos 1 ≡ pos m = omega (arith, ints) in
    (d.rows i h).holds (pos m *ℤ pos 1) value a ∙ rw (none, one) (omega (arith, ints))

pub equal_never_leaves : (s : System) (t : Tableau) (before rest between after : List Row) (r : Row) (k : ℕ) → DictionaryOf s t → s.rows ≡ before ++ r ∷ rest
    → rest ≡ between ++ r ∷ after → Leaves t k →
    basic_of t k ≢ s.unknowns + length before + 1 + length between
equal_never_leaves s t before rest between after r k d rows again leaves same =
    let f = d.free (pos 1) (λ _. pos 0) in
    let scale = pos f.0 *ℤ pos 1 in
    let v = s.unknowns + length before in
    let all = subst (λ (rs : List Row). SlacksFollow rs s.unknowns (pos f.0 *ℤ pos 1) f.1) rows f.3 in
    let first = follow_rest before (r ∷ rest) s.unknowns scale f.1 all in
    let behind = subst (λ (rs : List Row). SlacksFollow rs (suc (s.unknowns + length before)) (pos f.0 *ℤ pos 1) f.1) again first.1 in
    let later = follow_rest between (r ∷ after) (suc v) scale f.1 behind in
    let place : basic_of t k ≡ suc v + length between = same ∙ omega arith in
    let equal : f.1 (basic_of t k) ≡ f.1 v = ap f.1 place ∙ later.0 ∙ sym first.0 in
    let low : f.1 (basic_of t k) <ℤ pos 0 =
    lt-zero_of_mul (row_of t k).denominator (f.1 (basic_of t k)) (d.rows k leaves.below).positive
    (rw (at_vertex (IsAssignment s) (variables s) t f.0 f.1 d f.3 f.4 k leaves.below) (mul-lt-zero f.0 (row_of t k).constant f.2 leaves.negative)) in
    let long = ap (λ (rs : List Row). length rs) rows ∙ length-append before (r ∷ rest) in
    elim (d.basis.cover v (omega arith)) [
      | inl p ↦
          let least = leaves.least p.0 p.1 (let e = p.2 in omega arith) in
          let high : pos 0 ≤ℤ f.1 (basic_of t p.0) =
          ge-zero_of_mul (row_of t p.0).denominator (f.1 (basic_of t p.0)) (d.rows p.0 p.1).positive
          (rw (at_vertex (IsAssignment s) (variables s) t f.0 f.1 d f.3 f.4 p.0 p.1)
          (mul-ge-zero (pos f.0) (row_of t p.0).constant (omega (arith, ints)) least)) in
          let e = ap f.1 p.2 in
          omega (arith, ints, low, equal, high, e)
      | inr p ↦
          let zero = f.4 p.0 p.1 in
          let e = ap f.1 p.2 in
          omega (arith, ints, low, equal, zero, e)
    ]
