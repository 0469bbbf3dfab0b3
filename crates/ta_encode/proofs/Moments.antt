-- rows at a moment at which the values so far give each place its value
use Rattle.ta_encode.proofs.Common.{◌≡◌, ℕ, suc, ◌+◌, ℤ, pos, ◌-ℤ◌, ◌≤ℤ◌, ◌<ℤ◌, List, [], ◌∷◌, ◌++◌, map, length, cond, Bool, true, false, arith, sym, ap, ◌∙◌}
use Rattle.ta_encode.proofs.Common.{refl, subst, slice_get, Some, All, ints, terms_value, value_of, RowHolds, Form, Row, Comparison, Automaton}
use Rattle.ta_encode.proofs.Common.{terms_value-same, Config, value_at, has_bit, Meaning, place_coefficient, location_place, LinearRow, opposite, negated}
use Rattle.ta_encode.proofs.Common.{form_row, counter_row, condition_rows, guard_rows, start_guard_rows, sum_of_products, row_value, AllHold}
use Rattle.ta_encode.proofs.Combine.{combine-extra, combine-terms, combine-opposite}

-- the values so far give each place its value in a configuration
pub record Moment (a : Automaton) (ms : List Meaning) (vs : List ℕ) (d : Config) : Type 0 where
  pub count : length vs ≡ length ms
  pub places : (i : ℕ) → sum_of_products (map (λ m. place_coefficient a m i) ms) vs ≡ value_at d i

pub form_value : (a : Automaton) (ms : List Meaning) (vs : List ℕ) (d : Config) → Moment a ms vs d → (more : List ℕ) (f : Form)
    → row_value (vs ++ more) (form_row a ms f) ≡ value_of (value_at d) f
form_value a ms vs d m more f =
    omega (
      arith,
      ints,
      combine-extra (λ k. terms_value (place_coefficient a k) f.terms) ms vs more m.count,
      combine-terms (place_coefficient a) ms vs f.terms,
      terms_value-same f.terms (λ i. sum_of_products (map (λ k. place_coefficient a k i) ms) vs) (value_at d) m.places,
    )

pub AllHold-append : (vs : List ℕ) (xs ys : List LinearRow) → AllHold vs xs → AllHold vs ys → AllHold vs (xs ++ ys)
AllHold-append vs [] ys h g = g
AllHold-append vs (x ∷ xs) ys h g = (h.0, AllHold-append vs xs ys h.1 g)

pub AllHold-left : (vs : List ℕ) (xs ys : List LinearRow) → AllHold vs (xs ++ ys) → AllHold vs xs
AllHold-left vs [] ys h = tt
AllHold-left vs (x ∷ xs) ys h = (h.0, AllHold-left vs xs ys h.1)

pub cond_hold : (vs : List ℕ) (b : Bool) (xs ys : List LinearRow) → (b ≡ true → AllHold vs xs) → (b ≡ false → AllHold vs ys) → AllHold vs (cond b xs ys)
cond_hold vs true xs ys h g = h refl
cond_hold vs false xs ys h g = g refl

pub opposite_value : (vs : List ℕ) (row : LinearRow) → row_value vs (opposite row) ≡ (pos 0 -ℤ row_value vs row)
opposite_value vs row = omega (arith, ints, combine-opposite row.coefficients vs)

pub negated_value : (vs : List ℕ) (row : LinearRow) → row_value vs (negated row) ≡ ((pos 0 -ℤ row_value vs row) -ℤ pos 1)
negated_value vs row = omega (arith, ints, combine-opposite row.coefficients vs)

pub counters_hold : (a : Automaton) (ms : List Meaning) (vs : List ℕ) (d : Config) → Moment a ms vs d → (more : List ℕ) (ls : List ℕ)
    → AllHold (vs ++ more) (map (counter_row a ms) ls)
counters_hold a ms vs d m more [] = tt
counters_hold a ms vs d m more (l ∷ ls) = (
  omega (arith, ints, combine-extra (λ k. place_coefficient a k (location_place a l)) ms vs more m.count, m.places (location_place a l)),
  counters_hold a ms
      vs d m more ls,
)

rows_hold : (a : Automaton) (ms : List Meaning) (vs : List ℕ) (d : Config) → Moment a ms vs d → (more : List ℕ) (rows : List Row)
    → All (RowHolds (value_at d)) rows → AllHold (vs ++ more) (map (λ (r : Row). form_row a ms r.form) rows)
rows_hold a ms vs d m more [] h = tt
rows_hold a ms vs d m more (r ∷ rs) h =
    let first : pos 0 ≤ℤ value_of (value_at d) r.form = h 0 r (omega arith) in
    (omega (arith, ints, form_value a ms vs d m more r.form, first), rows_hold a ms vs d m more rs (λ k e b. h (suc k) e (omega arith)))

pub condition_holds : (a : Automaton) (ms : List Meaning) (vs : List ℕ) (d : Config) → Moment a ms vs d → (more : List ℕ) (ks : List Comparison)
    → All (λ (k : Comparison). All (RowHolds (value_at d)) k.rows) ks → AllHold (vs ++ more) (condition_rows a ms ks)
condition_holds a ms vs d m more [] h = tt
condition_holds a ms vs d m more (k ∷ ks) h =
    AllHold-append _ _ _ (rows_hold a ms vs d m more k.rows (h 0 k (omega arith))) (condition_holds a ms vs d m more ks (λ j e b. h (suc j) e (omega arith)))

-- a guard that fails
abbrev pub RowFails : (ℕ → ℤ) → Row → Type 0
RowFails point row = value_of point row.form <ℤ pos 0

pub guards_hold : (a : Automaton) (ms : List Meaning) (vs : List ℕ) (d : Config) → Moment a ms vs d
    → (more : List ℕ) (test : ℕ → Bool) (k : ℕ) (rows : List Row)
    → ((j : ℕ) (row : Row) → slice_get rows j ≡ Some row → test (k + j) ≡ true → RowHolds (value_at d) row) → AllHold (vs ++ more) (guard_rows a ms test k rows)
guards_hold a ms vs d m more test k [] h = tt
guards_hold a ms vs d m more test k (r ∷ rs) h =
    let rest = guards_hold a ms vs d m more test (k + 1) rs (λ j row at t. h (suc j) row at (let e : k + suc j ≡ k + 1 + j = omega arith in ap test e ∙ t)) in
    cond_hold (vs ++ more) (test k) _ _
    (λ t. (
      let first : pos 0 ≤ℤ value_of (value_at d) r.form = h 0 r refl (let e : k + 0 ≡ k = omega arith in ap test e ∙ t) in omega
          (arith, ints, form_value a ms vs d m more r.form, first),
      rest,
    )) (λ t. rest)

map_cond : (f : LinearRow → LinearRow) (b : Bool) (xs ys : List LinearRow) → map f (cond b xs ys) ≡ cond b (map f xs) (map f ys)
map_cond f true xs ys = refl
map_cond f false xs ys = refl

pub guards_fail : (a : Automaton) (ms : List Meaning) (vs : List ℕ) (d : Config) → Moment a ms vs d
    → (more : List ℕ) (test : ℕ → Bool) (k : ℕ) (rows : List Row)
    → ((j : ℕ) (row : Row) → slice_get rows j ≡ Some row → test (k + j) ≡ true → RowFails (value_at d) row)
    → AllHold (vs ++ more) (map negated (guard_rows a ms test k rows))
guards_fail a ms vs d m more test k [] h = tt
guards_fail a ms vs d m more test k (r ∷ rs) h =
    let rest = guards_fail a ms vs d m more test (k + 1) rs (λ j row at t. h (suc j) row at (let e : k + suc j ≡ k + 1 + j = omega arith in ap test e ∙ t)) in
    subst (AllHold (vs ++ more)) (sym (map_cond negated (test k) (form_row a ms r.form ∷ guard_rows a ms test (k + 1) rs) (guard_rows a ms test (k + 1) rs)))
    (cond_hold (vs ++ more) (test k) _ _
    (λ t. (
      let first : value_of (value_at d) r.form <ℤ pos 0 = h 0 r refl (let e : k + 0 ≡ k = omega arith in ap test e ∙ t) in omega
          (arith, ints, negated_value (vs ++ more) (form_row a ms r.form), form_value a ms vs d m more r.form, first),
      rest,
    )) (λ t. rest))

cond_value : (vs : List ℕ) (b : Bool) (x y : LinearRow) → (b ≡ true → pos 0 ≤ℤ row_value vs x) → (b ≡ false → pos 0 ≤ℤ row_value vs y)
    → pos 0 ≤ℤ row_value vs (cond b x y)
cond_value vs true x y h g = h refl
cond_value vs false x y h g = g refl

pub start_guards : (a : Automaton) (ms : List Meaning) (vs : List ℕ) (d : Config) → Moment a ms vs d → (more : List ℕ) (start k : ℕ) (rows : List Row)
    → ((j : ℕ) (row : Row) → slice_get rows j ≡ Some row → (has_bit start (k + j) ≡ true → RowFails (value_at d) row)
    × (has_bit start (k + j) ≡ false → RowHolds (value_at d) row)) → AllHold (vs ++ more) (start_guard_rows a ms start k rows)
start_guards a ms vs d m more start k [] h = tt
start_guards a ms vs d m more start k (r ∷ rs) h =
    let here = h 0 r refl in
    let same : k + 0 ≡ k = omega arith in
    let e : has_bit start (k + 0) ≡ has_bit start k = ap (has_bit start) same in
    let value = form_value a ms vs d m more r.form in (
      cond_value (vs ++ more) (has_bit start k) (negated (form_row a ms r.form)) (form_row a ms r.form)
          (λ t. let first : value_of (value_at d) r.form <ℤ pos 0 = here.0 (e ∙ t) in omega
          (arith, ints, negated_value (vs ++ more) (form_row a ms r.form), value, first))
          (λ t. let first : pos 0 ≤ℤ value_of (value_at d) r.form = here.1 (e ∙ t) in omega (arith, ints, value, first)),
      start_guards a ms vs d m more start (k + 1) rs
          (λ j row at. let s : k + suc j ≡ k + 1 + j = omega arith in let q = h (suc j) row at in
          (λ t. q.0 (ap (has_bit start) s ∙ t), λ t. q.1 (ap (has_bit start) s ∙ t))),
    )
