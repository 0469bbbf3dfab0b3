-- the rows of a node's system
use Rattle.ta_moment_tree.proofs.Common.{◌≡◌, ◌∙◌, inl, inr, ℕ, zero, suc, ℤ, pos, negsuc, ◌≢◌, ◌+◌, ◌^◌, List, [], ◌∷◌, ◌++◌, get_or, length, map, Option}
use Rattle.ta_moment_tree.proofs.Common.{Some, None, arith, ints, refl, sym, ap, subst, cases_eq, cases_lt, cond_apart, cond_same, AllByRecursion}
use Rattle.ta_moment_tree.proofs.Common.{range_with_len, at_number, length-map, length-range_with_len, AllBelow, AreRowsOf, Row, BoundsWithin, bound_constant}
use Rattle.ta_moment_tree.proofs.Common.{bound_row, bound_sense, coefficient, coefficient_in_sense, Bound, only_at, side_row, UnknownForm, Speaks, candidate_of}
use Rattle.ta_moment_tree.proofs.Common.{row_of_form, start_of, forms_of, bound_forms}
use Rattle.std.proofs.lemmas.List.{get_or_past}
use Rattle.ta_encode.specs.declared.meaning.Side.{Side}
use Rattle.ta_encode.specs.declared.meaning.Side.TheVariants.{Low, High}
use Rattle.ta_base.specs.Lists.{Pairwise}
use Rattle.ta_linear.proofs.NormalTerms.{normal_narrow}
use Rattle.ta_moments.specs.Code.{IsRowOfForm}
use Rattle.ta_moments.proofs.Speaking.{rows_append}
use Rattle.ta_moment_tree.specs.Systems.{FloorsWithin}

-- ---- bounds
only_here : (x : ℕ) (z : ℤ) → get_or (only_at x z) x (pos 0) ≡ z
only_here zero z = refl
only_here (suc x) z = only_here x z

only_there : (x u : ℕ) (z : ℤ) → x ≢ u → get_or (only_at x z) u (pos 0) ≡ pos 0
only_there zero zero z other = absurd (other refl)
only_there zero (suc u) z other = refl
only_there (suc x) zero z other = refl
only_there (suc x) (suc u) z other = only_there x u z (λ same. other (ap suc same))

only_long : (x : ℕ) (z : ℤ) → length (only_at x z) ≡ x + 1
only_long zero z = refl
only_long (suc x) z = omega (arith, only_long x z)

one_term : (x u : ℕ) (z : ℤ) → coefficient ((x, z) ∷ []) u ≡ get_or (only_at x z) u (pos 0)
one_term x u z = elim (cases_eq x u) [
  | inl same ↦ (let value : get_or (only_at x z) u (pos 0) ≡ z = ap (λ k. get_or (only_at x z) k (pos 0)) (sym same) ∙ only_here x z in omega
      (arith, ints, cond_same x u z (pos 0) same, value))
  | inr other ↦ omega (arith, ints, cond_apart x u z (pos 0) other, only_there x u z other)
]

-- the coefficients and the constant of the row of a bound
pub bound_terms : (b : Bound) (u : ℕ) → coefficient ((b.unknown, coefficient_in_sense (bound_sense b.side) (pos 1)) ∷ []) u ≡ get_or (bound_row b).coefficients
    u (pos 0)
bound_terms b u = of_side b.unknown b.floor b.side where
  of_side : (x : ℕ) (floor : ℤ) (side : Side) → coefficient ((x, coefficient_in_sense (bound_sense side) (pos 1)) ∷ []) u ≡ get_or
      (side_row x floor side).coefficients u (pos 0)
  of_side x floor Low = one_term x u (coefficient_in_sense (bound_sense Low) (pos 1))
  of_side x floor High = one_term x u (pos 1)

pub bound_start : (b : Bound) → bound_constant b.side b.floor ≡ (bound_row b).constant
bound_start b = of_side b.unknown b.floor b.side where
  of_side : (x : ℕ) (floor : ℤ) (side : Side) → bound_constant side floor ≡ (side_row x floor side).constant
  of_side x floor Low = refl
  of_side x floor High = refl

bound_long : (b : Bound) → length (bound_row b).coefficients ≡ b.unknown + 1
bound_long b = of_side b.unknown b.floor b.side where
  of_side : (x : ℕ) (floor : ℤ) (side : Side) → length (side_row x floor side).coefficients ≡ x + 1
  of_side x floor Low = only_long x (negsuc 0)
  of_side x floor High = only_long x (pos 1)

pub floors_within : (n : ℕ) (bounds : List Bound) → BoundsWithin n bounds → FloorsWithin bounds
floors_within n [] h = tt
floors_within n (b ∷ bounds) h = (record { least = (h.0).least; most = (h.0).most }, floors_within n bounds h.1)

bounds_speak : (n : ℕ) (bounds : List Bound) → BoundsWithin n bounds → AllByRecursion (Speaks n) (bound_forms bounds)
bounds_speak n [] h = tt
bounds_speak n (b ∷ bounds) h =
    (λ u beyond. get_or_past (bound_row b).coefficients u (pos 0) (let less = (h.0).exists in omega (arith, bound_long b)), bounds_speak n bounds h.1)

-- ---- rows
own_forms : (rows : List Row) → Pairwise IsRowOfForm (forms_of rows) rows
own_forms [] = tt
own_forms (r ∷ rs) = (record { constant = refl; coefficients = λ u. refl }, own_forms rs)

pub rows_of_forms : (fs : List UnknownForm) (rows : List Row) → forms_of rows ≡ fs → Pairwise IsRowOfForm fs rows
rows_of_forms fs rows e = subst (λ (gs : List UnknownForm). Pairwise IsRowOfForm gs rows) e (own_forms rows)

spoken_below : (n : ℕ) (fs : List UnknownForm) (rows : List Row) → Pairwise IsRowOfForm fs rows → AllByRecursion (Speaks n) fs → AllBelow n rows
spoken_below n [] [] p h = tt
spoken_below n [] (r ∷ rs) p h = absurd p
spoken_below n (f ∷ fs) [] p h = absurd p
spoken_below n (f ∷ fs) (r ∷ rs) p h =
    (normal_narrow 0 (2 ^ 32) n r.form.terms (omega arith) r.form.normal (λ x b. (p.0).coefficients x ∙ h.0 x b), spoken_below n fs rs p.1 h.1)

-- each variable of a node's rows with bounds is one of its unknowns
pub system_below : (n : ℕ) (fs : List UnknownForm) (bounds : List Bound) (rows : List Row) → AllByRecursion (Speaks n) fs → BoundsWithin n bounds
    → forms_of rows ≡ fs ++ bound_forms bounds → AllBelow n rows
system_below n fs bounds rows h within e = spoken_below n (fs ++ bound_forms bounds) rows (rows_of_forms (fs ++ bound_forms bounds) rows e)
    (rows_append n fs (bound_forms bounds) h (bounds_speak n bounds within))

coefficient_kept : (n u : ℕ) (f : UnknownForm) → Speaks n f → get_or (row_of_form n f).coefficients u (pos 0) ≡ f.coefficient u
coefficient_kept n u f speaks = elim (cases_lt u n) [
  | inl b ↦ at_number f.coefficient 0 n u (pos 0) b ∙ ap f.coefficient (let e : 0 + u ≡ u = omega arith in e)
  | inr b ↦ get_or_past (map f.coefficient (range_with_len 0 n)) u (pos 0)
      (omega (arith, length-map (range_with_len 0 n) f.coefficient, length-range_with_len 0 n)) ∙ sym (speaks u b)
]

pub rows_of_lines : (n : ℕ) (fs : List UnknownForm) (bounds : List Bound) (rows : List Row) → AllByRecursion (Speaks n) fs
    → Pairwise IsRowOfForm (fs ++ bound_forms bounds) rows → AreRowsOf (map (row_of_form n) fs ++ map bound_row bounds) rows
rows_of_lines n [] [] [] h p = tt
rows_of_lines n [] [] (r ∷ rs) h p = absurd p
rows_of_lines n [] (b ∷ bounds) [] h p = absurd p
rows_of_lines n [] (b ∷ bounds) (r ∷ rs) h p = (record { constant = (p.0).constant; coefficients = (p.0).coefficients }, rows_of_lines n [] bounds rs h p.1)
rows_of_lines n (f ∷ fs) bounds [] h p = absurd p
rows_of_lines n (f ∷ fs) bounds (r ∷ rs) h p =
    (record { constant = (p.0).constant; coefficients = λ u. (p.0).coefficients u ∙ sym (coefficient_kept n u f h.0) }, rows_of_lines n fs bounds rs h.1 p.1)

pub back : (c : Option ℕ) → candidate_of (start_of c) ≡ c
back None = refl
back (Some e) = refl
