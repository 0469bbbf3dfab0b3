-- normal terms are determined by their coefficients, and a row by its numbers over the first places
use Rattle.ta_meaning.proofs.Common.{◌≡◌, inl, inr, ℕ, ℤ, pos, ◌+◌, ◌<◌, List, map, length, get_or, arith, sym, ap, ◌∙◌, refl, cases_lt, ext_get_or}
use Rattle.ta_meaning.proofs.Common.{get_or_past, coefficient, IsNormal, Row, coefficient-above, normal_unique, range_with_len, Linear, RowOf, linear_of}
use Rattle.ta_meaning.proofs.Common.{HasSameTerms, at_number, length-map-range_with_len}

pub linear_at : (row : Row) (places i : ℕ) → i < places → get_or (linear_of places row).coefficients i (pos 0) ≡ coefficient row.form.terms i
linear_at row places i h = at_number (coefficient row.form.terms) 0 places i (pos 0) h ∙ ap (coefficient row.form.terms) (let e : 0 + i ≡ i = omega arith in e)

pub linear_same : (a b : Linear) → a.constant ≡ b.constant → a.coefficients ≡ b.coefficients → a ≡ b
linear_same a b p q =
    let first : a ≡ record { constant = b.constant; coefficients = a.coefficients } = ap (λ (z : ℤ). record a { constant = z }) p in
    first ∙ ap (λ (zs : List ℤ). record b { coefficients = zs }) q

-- numbers of as many places as there are, and a row with these numbers
pub linear_is : (linear : Linear) (row : Row) (places : ℕ) → length linear.coefficients ≡ places → RowOf linear row → linear ≡ linear_of places row
linear_is linear row places count is =
    linear_same linear (linear_of places row) (sym is.constant) (ext_get_or (pos 0) linear.coefficients (linear_of places row).coefficients
    (count ∙ sym (length-map-range_with_len (coefficient row.form.terms) 0 places))
    (λ i h. sym (is.coefficients i) ∙ sym (linear_at row places i (omega arith))))

pub linear_row : (row : Row) (places : ℕ) → IsNormal 0 places row.form.terms → RowOf (linear_of places row) row
linear_row row places normal = record {
  constant = refl;
  coefficients = λ i. elim (cases_lt i places) [
    | inl h ↦ sym (linear_at row places i h)
    | inr h ↦ coefficient-above 0 places row.form.terms i normal h
        ∙ sym (get_or_past (linear_of places row).coefficients i (pos 0)
        (let e = length-map-range_with_len (coefficient row.form.terms) 0 places in omega arith))
  ];
}

pub same_linear : (a b : Row) (places : ℕ) → HasSameTerms a b → linear_of places a ≡ linear_of places b
same_linear a b places same =
    linear_same (linear_of places a) (linear_of places b) same.constant (ap (λ (ts : List (ℕ × ℤ)). map (coefficient ts) (range_with_len 0 places)) same.terms)

-- rows with the same numbers have the same terms
pub linear_unique : (a b : Row) (places : ℕ) → IsNormal 0 places a.form.terms → IsNormal 0 places b.form.terms → linear_of places a ≡ linear_of places b
    → HasSameTerms a b
linear_unique a b places m n e = record {
  constant = ap (λ (l : Linear). l.constant) e;
  terms = normal_unique 0 places a.form.terms b.form.terms m n (λ x. elim (cases_lt x places) [
    | inl h ↦ sym (linear_at a places x h) ∙ ap (λ (l : Linear). get_or l.coefficients x (pos 0)) e ∙ linear_at b places x h
    | inr h ↦ coefficient-above 0 places a.form.terms x m h ∙ sym (coefficient-above 0 places b.form.terms x n h)
  ]);
}
