-- the signs of shared variables' coefficients, in a row's terms and in its numbers
use Rattle.ta_meaning.proofs.Common.{◌≡◌, inl, inr, ℕ, ℤ, pos, negsuc, ◌+◌, ◌-◌, ◌<◌, ◌≤◌, ◌≤ℤ◌, List, [], ◌∷◌, map, length, drop, get_or, Bool, true, false}
use Rattle.ta_meaning.proofs.Common.{leb, ◌&&◌, arith, sym, ap, ◌∙◌, refl, list_any, AllByRecursion, ints, false≢true, or_cases, or_left, or_right, or_parts}
use Rattle.ta_meaning.proofs.Common.{and_parts, and_from, and_cases, cases_eq, leb-true, leb-false, le-leb, ltb-false, same_from_decides, get_or-drop}
use Rattle.ta_meaning.proofs.Common.{length-drop, or_at, number_gives, negative_false, coefficient, IsNormal, Row, IsNormal-le, coefficient-first}
use Rattle.ta_meaning.proofs.Common.{coefficient-other, RowOver, Linear, Pairwise, RowOf, is_negative, is_positive, falls, is_no_threshold, any_shared}
use Rattle.ta_meaning.proofs.Common.{is_no_guard, linear_of, length-map-range_with_len}
use Rattle.ta_meaning.proofs.NormalTerms.{linear_at, linear_is}

-- ---- terms

not_positive : (z : ℤ) → is_positive z ≡ false → z ≤ℤ pos 0
not_positive (pos n) e = let h = ltb-false 0 n e in omega (arith, ints)
not_positive (negsuc n) e = omega (arith, ints)

none_passes : (test : ℤ → Bool) (Q : ℤ → Type 0) (parameters : ℕ) (ts : List (ℕ × ℤ)) → ((z : ℤ) → test z ≡ false → Q z) → any_shared test parameters ts ≡ false
    → AllByRecursion (λ (t : ℕ × ℤ). parameters ≤ t.0 → Q t.1) ts
none_passes test Q parameters [] f h = tt
none_passes test Q parameters (t ∷ ts) f h =
    let parts = or_parts (leb parameters t.0 && test t.1) (any_shared test parameters ts) h in (
      λ low. elim (and_cases (leb parameters t.0) (test t.1) parts.0) [
        | inl e ↦ absurd (let below = leb-false parameters t.0 e in omega arith)
        | inr e ↦ f t.1 e
      ],
      none_passes test Q parameters ts f parts.1,
    )

-- no negative coefficient of a shared variable
pub rises_each : (parameters : ℕ) (ts : List (ℕ × ℤ)) → any_shared is_negative parameters ts ≡ false
    → AllByRecursion (λ (t : ℕ × ℤ). parameters ≤ t.0 → pos 0 ≤ℤ t.1) ts
rises_each parameters ts h = none_passes is_negative (λ z. pos 0 ≤ℤ z) parameters ts negative_false h

-- no positive coefficient of a shared variable
pub falls_each : (parameters : ℕ) (ts : List (ℕ × ℤ)) → any_shared is_positive parameters ts ≡ false
    → AllByRecursion (λ (t : ℕ × ℤ). parameters ≤ t.0 → t.1 ≤ℤ pos 0) ts
falls_each parameters ts h = none_passes is_positive (λ z. z ≤ℤ pos 0) parameters ts not_positive h

pub some_shared : (test : ℤ → Bool) (parameters : ℕ) (ts : List (ℕ × ℤ)) → any_shared test parameters ts ≡ true
    → AllByRecursion (λ (t : ℕ × ℤ). t.0 < parameters) ts → ⊥
some_shared test parameters [] h below = false≢true h
some_shared test parameters (t ∷ ts) h below = elim (or_cases (leb parameters t.0 && test t.1) (any_shared test parameters ts) h) [
  | inl e ↦ (let low = leb-true parameters t.0 (and_parts (leb parameters t.0) (test t.1) e).0 in let high = below.0 in omega arith)
  | inr e ↦ some_shared test parameters ts e below.1
]

-- ---- terms and numbers

-- a place from a number on whose coefficient passes
pub record Passes (test : ℤ → Bool) (parameters low high : ℕ) (ts : List (ℕ × ℤ)) : Type 0 where
  pub place : ℕ
  pub shared : parameters ≤ place
  pub from_low : low ≤ place
  pub below : place < high
  pub passes : test (coefficient ts place) ≡ true

any_gives : (test : ℤ → Bool) (parameters low high : ℕ) (ts : List (ℕ × ℤ)) → IsNormal low high ts → any_shared test parameters ts ≡ true
    → Passes test parameters low high ts
any_gives test parameters low high [] n h = absurd (false≢true h)
any_gives test parameters low high (t ∷ ts) n h = elim (or_cases (leb parameters t.0 && test t.1) (any_shared test parameters ts) h) [
  | inl e ↦ (
      let parts = and_parts (leb parameters t.0) (test t.1) e in
      let last = IsNormal-le (t.0 + 1) high ts n.2 in
      record {
        place = t.0;
        shared = leb-true parameters t.0 parts.0;
        from_low = n.0;
        below = omega arith;
        passes = ap test (coefficient-first high t ts n.2) ∙ parts.1;
      }
      )
  | inr e ↦ (
      let w = any_gives test parameters (t.0 + 1) high ts n.2 e in
      let low_t = n.0 in
      record {
        place = w.place;
        shared = w.shared;
        from_low = omega arith;
        below = w.below;
        passes = ap test (coefficient-other t ts w.place (λ q. let low_w = w.from_low in omega arith)) ∙ w.passes;
      }
      )
]

any_from : (test : ℤ → Bool) (parameters low high i : ℕ) (ts : List (ℕ × ℤ)) → test (pos 0) ≡ false → IsNormal low high ts → parameters ≤ i
    → test (coefficient ts i) ≡ true → any_shared test parameters ts ≡ true
any_from test parameters low high i [] none n h t = absurd (false≢true (sym none ∙ t))
any_from test parameters low high i (s ∷ ts) none n h t = elim (cases_eq s.0 i) [
  | inl e ↦ or_left (leb parameters s.0 && test s.1) (any_shared test parameters ts)
      (and_from (leb parameters s.0) (test s.1) (le-leb parameters s.0 (omega arith))
      (ap test (sym (coefficient-first high s ts n.2) ∙ ap (coefficient (s ∷ ts)) e) ∙ t))
  | inr ne ↦ or_right (leb parameters s.0 && test s.1) (any_shared test parameters ts)
      (any_from test parameters (s.0 + 1) high i ts none n.2 h (ap test (sym (coefficient-other s ts i ne)) ∙ t))
]

-- a row's terms and its numbers agree on whether a coefficient of a shared variable passes
pub any_same : (test : ℤ → Bool) (parameters places : ℕ) (row : Row) → test (pos 0) ≡ false → IsNormal 0 places row.form.terms
    → any_shared test parameters row.form.terms ≡ list_any test (drop parameters (linear_of places row).coefficients)
any_same test parameters places row none n =
    let ts = row.form.terms in
    let zs = (linear_of places row).coefficients in
    let count = length-map-range_with_len (coefficient ts) 0 places in
    let short = length-drop parameters zs in
    same_from_decides (any_shared test parameters ts) (list_any test (drop parameters zs)) (
      λ h. (
          let w = any_gives test parameters 0 places ts n h in
          let low = w.shared in
          let high = w.below in
          let read : get_or (drop parameters zs) (w.place - parameters) (pos 0) ≡ coefficient ts w.place =
          get_or-drop parameters zs (w.place - parameters) (pos 0)
          ∙ ap (λ i. get_or zs i (pos 0)) (let e : parameters + (w.place - parameters) ≡ w.place = omega arith in e) ∙ linear_at row places w.place high in
          or_at (list_any test) test refl (λ _ _. refl) (drop parameters zs) (w.place - parameters) (pos 0) (omega arith) (ap test read ∙ w.passes)
          ),
      λ h. (
          let w = number_gives test (drop parameters zs) h in
          let within = w.1 in
          any_from test parameters 0 places (parameters + w.0) ts none n (omega arith)
          (ap test (sym (get_or-drop parameters zs w.0 (pos 0) ∙ linear_at row places (parameters + w.0) (omega arith))) ∙ w.2)
          ),
    ) (λ h. h, λ h. h)

pub falls_same : (parameters places : ℕ) (row : Row) → IsNormal 0 places row.form.terms
    → any_shared is_negative parameters row.form.terms ≡ falls parameters (linear_of places row)
falls_same parameters places row n = any_same is_negative parameters places row refl n

-- ---- comparisons
pub rows_are : (places : ℕ) (linears : List Linear) (rows : List Row) → AllByRecursion (λ (l : Linear). length l.coefficients ≡ places) linears
    → Pairwise RowOf linears rows → linears ≡ map (linear_of places) rows
rows_are places [] [] count are = refl
rows_are places [] (r ∷ rows) count are = absurd are
rows_are places (l ∷ linears) [] count are = absurd are
rows_are places (l ∷ linears) (r ∷ rows) count are =
    let first = linear_is l r places count.0 are.0 in
    let rest = rows_are places linears rows count.1 are.1 in
    cc

pub no_threshold_same : (parameters places : ℕ) (rows : List Row) → AllByRecursion (RowOver places) rows
    → is_no_guard parameters rows ≡ is_no_threshold parameters (map (linear_of places) rows)
no_threshold_same parameters places [] over = refl
no_threshold_same parameters places (r ∷ []) over =
    ap (λ b. b && any_shared is_positive parameters r.form.terms) (falls_same parameters places r over.0.below)
    ∙ ap (λ b. falls parameters (linear_of places r) && b) (any_same is_positive parameters places r refl over.0.below)
no_threshold_same parameters places (r ∷ q ∷ rows) over = refl
