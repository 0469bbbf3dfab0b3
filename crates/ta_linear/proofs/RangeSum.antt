use Rattle.ta_linear.proofs.Common.{◌≡◌, ℕ, ◌+◌, ◌<◌, ◌^◌, ℤ, pos, negsuc, neg_ℤ, ◌-ℤ◌, ◌↔◌, ◌+ℤ◌, ◌*ℤ◌, List, [], ◌∷◌, eqb, cond, arith, sym, ap, ◌∙◌, ints}
use Rattle.ta_linear.proofs.Common.{zero-*ℤ, distributes, distributes_right, neg-mul, range_sum, times_assoc, turned_negative, one_term, range_sum-add}
use Rattle.ta_linear.proofs.Common.{range_sum-same, range_sum-times, range_sum-zero, coefficient, IsNormal, terms_value, Form, IsSum, IsMultiple, IsNegation}
use Rattle.ta_linear.proofs.Common.{value_of, RowHolds, Row}
use Rattle.ta_linear.proofs.TermLemmas.{IsNormal-le}

-- the value of terms is the sum over all variables of the coefficient times the variable's value
pub terms_value-sum : (point : ℕ → ℤ) (low n : ℕ) (ts : List (ℕ × ℤ)) → IsNormal low n ts
    → terms_value point ts ≡ range_sum (λ x. coefficient ts x *ℤ point x) n
terms_value-sum point low n [] h = sym (range_sum-zero _ n (λ x b. zero-*ℤ (point x)))
terms_value-sum point low n (t ∷ ts) h =
    let below : t.0 < n = omega (arith, IsNormal-le (t.0 + 1) n ts h.2) in
    let split = range_sum-same (λ x. coefficient (t ∷ ts) x *ℤ point x) (λ x. (cond (eqb t.0 x) t.1 (pos 0) *ℤ point x) +ℤ (coefficient ts x *ℤ point x)) n
    (λ x b. distributes_right (cond (eqb t.0 x) t.1 (pos 0)) (coefficient ts x) (point x)) in
    let parts = range_sum-add (λ x. cond (eqb t.0 x) t.1 (pos 0) *ℤ point x) (λ x. coefficient ts x *ℤ point x) n in
    omega (arith, ints, split, parts, one_term point t.0 t.1 n below, terms_value-sum point (t.0 + 1) n ts h.2)

pub value_of-sum : (point : ℕ → ℤ) (s a b : Form) → IsSum s a b → value_of point s ≡ (value_of point a +ℤ value_of point b)
value_of-sum point s a b h =
    let n = 2 ^ 32 in
    let each = range_sum-same (λ x. coefficient s.terms x *ℤ point x) (λ x. (coefficient a.terms x *ℤ point x) +ℤ (coefficient b.terms x *ℤ point x)) n
    (λ x _. ap (λ z. z *ℤ point x) (h.coefficients x) ∙ distributes_right (coefficient a.terms x) (coefficient b.terms x) (point x)) in
    let parts = range_sum-add (λ x. coefficient a.terms x *ℤ point x) (λ x. coefficient b.terms x *ℤ point x) n in
    omega (
      arith,
      ints,
      each,
      parts,
      h.constant,
      terms_value-sum point 0 n s.terms s.normal,
      terms_value-sum point 0 n a.terms a.normal,
      terms_value-sum point 0
          n b.terms b.normal,
    )

pub value_of-multiple : (point : ℕ → ℤ) (m a : Form) (k : ℤ) → IsMultiple m a k → value_of point m ≡ (k *ℤ value_of point a)
value_of-multiple point m a k h =
    let n = 2 ^ 32 in
    let each = range_sum-same (λ x. coefficient m.terms x *ℤ point x) (λ x. k *ℤ (coefficient a.terms x *ℤ point x)) n
    (λ x _. ap (λ z. z *ℤ point x) (h.coefficients x) ∙ times_assoc k (coefficient a.terms x) (point x)) in
    let parts = range_sum-times k (λ x. coefficient a.terms x *ℤ point x) n in
    omega (
      arith,
      ints,
      each,
      parts,
      h.constant,
      distributes k a.constant (terms_value point a.terms),
      terms_value-sum point 0 n m.terms m.normal,
      ap
          (λ z. k *ℤ z) (terms_value-sum point 0 n a.terms a.normal),
    )

pub value_of-negation : (point : ℕ → ℤ) (m a : Form) → IsNegation m a → value_of point m ≡ (neg_ℤ (value_of point a) -ℤ pos 1)
value_of-negation point m a h =
    let n = 2 ^ 32 in
    let f : ℕ → ℤ = λ x. coefficient a.terms x *ℤ point x in
    let each = range_sum-same (λ x. coefficient m.terms x *ℤ point x) (λ x. negsuc 0 *ℤ f x) n
    (λ x _. ap (λ z. z *ℤ point x) (h.coefficients x) ∙ neg-mul (coefficient a.terms x) (point x) ∙ omega (arith, ints)) in
    omega (
      arith,
      ints,
      each,
      range_sum-times (negsuc 0) f n,
      h.constant,
      terms_value-sum point 0 n m.terms m.normal,
      terms_value-sum point 0 n a.terms
          a.normal,
    )

-- the negated row holds exactly where the row doesn't
pub RowHolds-negation : (point : ℕ → ℤ) (negation row : Row) → IsNegation negation.form row.form → RowHolds point negation ↔ ¬ RowHolds point row
RowHolds-negation point negation row h =
    let value = value_of-negation point negation.form row.form h in
    (λ holds other. absurd (omega (arith, ints, holds, other, value)), λ fails. rw value (turned_negative (value_of point row.form) fails))
