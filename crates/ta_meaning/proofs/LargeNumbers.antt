-- Numbers above 1,000,000,000: in a form exactly where they are in what it means.
use Rattle.ta_meaning.proofs.Common.{◌≡◌, ℕ, zero, suc, ℤ, pos, ◌+◌, ◌^◌, ◌≤◌, unsigned_abs, Bool, false, ◌||◌, eqb, List, [], ◌∷◌, length, get_or, refl, sym}
use Rattle.ta_meaning.proofs.Common.{ap, subst, ◌∙◌, arith, list_any, AllByRecursion, ints, nat_tests, or_parts, or_from, both_or_neither, cond_small}
use Rattle.ta_meaning.proofs.Common.{coefficient, IsNormal, Form, Row, coefficient-below, coefficient-first, coefficient-other, normal_narrow, FormOver, Linear}
use Rattle.ta_meaning.proofs.Common.{FormOf, Pairwise, RowOf, is_large, is_large_linear, any_large, FormWithin, is_large_form, any_large_term, any_large_row}
use Rattle.ta_meaning.proofs.Common.{get_or_past, true, drop, drop_more, ◌<◌}

pub small_tells : (z : ℤ) → is_large z ≡ false → unsigned_abs z ≤ 1000000000
small_tells z h = grind (arith, nat_tests)

pub small_test : (z : ℤ) → unsigned_abs z ≤ 1000000000 → is_large z ≡ false
small_test z h = grind (arith, nat_tests)

-- ---- lists of numbers
numbers_small : (zs : List ℤ) (i : ℕ) → list_any is_large zs ≡ false → unsigned_abs (get_or zs i (pos 0)) ≤ 1000000000
numbers_small [] i h = omega (arith, ints)
numbers_small (z ∷ zs) zero h = small_tells z (or_parts (is_large z) (list_any is_large zs) h).0
numbers_small (z ∷ zs) (suc i) h = numbers_small zs i (or_parts (is_large z) (list_any is_large zs) h).1

small_numbers : (zs : List ℤ) → ((i : ℕ) → unsigned_abs (get_or zs i (pos 0)) ≤ 1000000000) → list_any is_large zs ≡ false
small_numbers [] h = refl
small_numbers (z ∷ zs) h = or_from (is_large z) (list_any is_large zs) (small_test z (h zero)) (small_numbers zs (λ i. h (suc i)))

terms_small : (low high : ℕ) (ts : List (ℕ × ℤ)) (x : ℕ) → IsNormal low high ts → any_large_term ts ≡ false → unsigned_abs (coefficient ts x) ≤ 1000000000
terms_small low high [] x n h = omega (arith, ints)
terms_small low high (t ∷ ts) x n h =
    cond_small (eqb t.0 x) t.1 (coefficient ts x)
    (λ e. coefficient-below (t.0 + 1) high ts x n.2 (grind (arith, nat_tests)))
    (small_tells t.1 (or_parts (is_large t.1) (any_large_term ts) h).0)
    (terms_small (t.0 + 1) high ts x n.2 (or_parts (is_large t.1) (any_large_term ts) h).1)

small_terms : (low high : ℕ) (ts : List (ℕ × ℤ)) → IsNormal low high ts → ((x : ℕ) → low ≤ x → unsigned_abs (coefficient ts x) ≤ 1000000000)
    → any_large_term ts ≡ false
small_terms low high [] n h = refl
small_terms low high (t ∷ ts) n h =
    or_from (is_large t.1) (any_large_term ts)
    (small_test t.1 (subst (λ (z : ℤ). unsigned_abs z ≤ 1000000000) (coefficient-first high t ts n.2) (h t.0 n.0)))
    (small_terms (t.0 + 1) high ts n.2
    (λ x k. subst (λ (z : ℤ). unsigned_abs z ≤ 1000000000) (coefficient-other t ts x (omega arith)) (h x (omega (arith, n.0)))))

-- ---- forms
pub small_within : (form : Form) → is_large_form form ≡ false → FormWithin 1000000000 form
small_within form h = record {
  constant = small_tells form.constant (or_parts (is_large form.constant) (any_large_term form.terms) h).0;
  coefficients = λ x. terms_small 0 (2 ^ 32) form.terms x form.normal (or_parts (is_large form.constant) (any_large_term form.terms) h).1;
}

pub within_small : (form : Form) → FormWithin 1000000000 form → is_large_form form ≡ false
within_small form w = or_from (is_large form.constant) (any_large_term form.terms) (small_test form.constant w.constant)
    (small_terms 0 (2 ^ 32) form.terms form.normal (λ x h. w.coefficients x))

pub linear_small : (l : Linear) (form : Form) → FormOf l form → FormWithin 1000000000 form → is_large_linear l ≡ false
linear_small l form is w =
    or_from (is_large l.constant) (list_any is_large l.coefficients)
    (small_test l.constant (subst (λ (z : ℤ). unsigned_abs z ≤ 1000000000) is.constant w.constant))
    (small_numbers l.coefficients (λ i. subst (λ (z : ℤ). unsigned_abs z ≤ 1000000000) (is.coefficients i) (w.coefficients i)))

small_linear : (l : Linear) (form : Form) → FormOf l form → is_large_linear l ≡ false → FormWithin 1000000000 form
small_linear l form is h = record {
  constant = subst (λ (z : ℤ). unsigned_abs z ≤ 1000000000) (sym is.constant)
      (small_tells l.constant (or_parts (is_large l.constant) (list_any is_large l.coefficients) h).0);
  coefficients = λ i. subst (λ (z : ℤ). unsigned_abs z ≤ 1000000000) (sym (is.coefficients i))
      (numbers_small l.coefficients i (or_parts (is_large l.constant) (list_any is_large l.coefficients) h).1);
}

-- a form has a large number exactly where what it means has one
pub same_large : (l : Linear) (form : Form) → FormOf l form → is_large_form form ≡ is_large_linear l
same_large l form is =
    both_or_neither (is_large_form form) (is_large_linear l)
    (λ h. linear_small l form is (small_within form h))
    (λ h. within_small form (small_linear l form is h))

pub same_large_rows : (ls : List Linear) (rows : List Row) → Pairwise RowOf ls rows → any_large_row rows ≡ any_large ls
same_large_rows [] [] h = refl
same_large_rows (l ∷ ls) (r ∷ rows) h = ap (λ (b : Bool). b || any_large_row rows) (same_large l r.form h.0)
    ∙ ap (λ (b : Bool). is_large_linear l || b) (same_large_rows ls rows h.1)
same_large_rows [] (r ∷ rows) h = absurd h
same_large_rows (l ∷ ls) [] h = absurd h

-- ---- forms over the first places
each_small : (ts : List (ℕ × ℤ)) → any_large_term ts ≡ false → AllByRecursion (λ (t : ℕ × ℤ). unsigned_abs t.1 ≤ 1000000000) ts
each_small [] h = tt
each_small (t ∷ ts) h = (small_tells t.1 (or_parts (is_large t.1) (any_large_term ts) h).0, each_small ts (or_parts (is_large t.1) (any_large_term ts) h).1)

pub form_over : (l : Linear) (places : ℕ) (form : Form) → FormOf l form → length l.coefficients ≡ places → is_large_form form ≡ false → FormOver places form
form_over l places form is e small = record {
  below = normal_narrow 0 (2 ^ 32) places form.terms (omega arith) form.normal
      (λ x h. is.coefficients x ∙ get_or_past l.coefficients x (pos 0) (omega (arith, e)));
  small = record {
    constant = small_tells form.constant (or_parts (is_large form.constant) (any_large_term form.terms) small).0;
    coefficients = each_small form.terms (or_parts (is_large form.constant) (any_large_term form.terms) small).1;
  };
}

pub rows_over : (ls : List Linear) (places : ℕ) (rows : List Row) → Pairwise RowOf ls rows → AllByRecursion (λ l. length l.coefficients ≡ places) ls
    → any_large_row rows ≡ false → AllByRecursion (λ (r : Row). FormOver places r.form) rows
rows_over [] places [] h e small = tt
rows_over (l ∷ ls) places (r ∷ rows) h e small = (
  form_over l places r.form h.0 e.0 (or_parts (is_large_form r.form) (any_large_row rows) small).0,
  rows_over ls places rows h.1 e.1
      (or_parts (is_large_form r.form) (any_large_row rows) small).1,
)
rows_over [] places (r ∷ rows) h e small = absurd h
rows_over (l ∷ ls) places [] h e small = absurd h

-- ---- terms one after another
pub large_here : (ts : List (ℕ × ℤ)) (i : ℕ) → i < length ts → any_large_term ts ≡ any_large_term (drop i ts) → is_large (get_or ts i (0, pos 0)).1 ≡ true
    → any_large_term ts ≡ true
large_here ts i within before large = before ∙ ap any_large_term (drop_more ts i (0, pos 0) within)
    ∙ ap (λ (b : Bool). b || any_large_term (drop (i + 1) ts)) large

pub none_large : (ts : List (ℕ × ℤ)) (i : ℕ) → i < length ts → any_large_term ts ≡ any_large_term (drop i ts)
    → is_large (get_or ts i (0, pos 0)).1 ≡ false → any_large_term ts ≡ any_large_term (drop (i + 1) ts)
none_large ts i within before small = before ∙ ap any_large_term (drop_more ts i (0, pos 0) within)
    ∙ ap (λ (b : Bool). b || any_large_term (drop (i + 1) ts)) small
