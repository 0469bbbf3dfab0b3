-- values that meet a node's rows hold at the rows of its search, and the other way round
use Rattle.ta_walk.proofs.Common.{and_parts, list_all, range_with_len, LinearRow, number, fits, if_fits, is_known_natural, known_value, natural_values}
use Rattle.ta_walk.proofs.Common.{with_product, with_products, row_of_form, length-map}
use Rattle.ta_moments.proofs.Common.{◌≡◌, ℕ, zero, suc, ◌+◌, ℤ, pos, ◌+ℤ◌, ◌*ℤ◌, ◌≤ℤ◌, ◌&&◌, Bool, true, false, false≢true, List, [], ◌∷◌, ◌++◌}
use Rattle.ta_moments.proofs.Common.{map, length, get_or, Option, Some, None, cond, arith, ints, negsuc, refl, sym, ap, ◌∙◌, same_Some, range_sum-same}
use Rattle.ta_moments.proofs.Common.{AllByRecursion, AllHold, bound_row, row_value, Bound, UnknownForm, form_of_row}
unfoldable use Rattle.ta_base.proofs.Sums.{range_sum}
unfoldable use Rattle.ta_base.specs.Sums.{total}
use Rattle.ta_base.proofs.Lists.{range_more}
use Rattle.ta_base.proofs.Ranges.{at_number}
use Rattle.ta_base.proofs.Totals.{total-append}
use Rattle.ta_moments.proofs.Values.{value_is, valued}
use Rattle.ta_moments.proofs.Worth.{worth-row}
use Rattle.ta_moments.specs.Whole.{form_value}

-- ---- rows as forms
row_valued : (vs : List ℕ) (row : LinearRow) → row_value vs row ≡ form_value vs (form_of_row row)
row_valued vs row = sym (worth-row vs row) ∙ sym (valued vs (form_of_row row))

form_valued : (n : ℕ) (vs : List ℕ) (f : UnknownForm) → length vs ≡ n → row_value vs (row_of_form n f) ≡ form_value vs f
form_valued n vs f long =
    let row = row_of_form n f in
    let same = range_sum-same (λ u. (form_of_row row).coefficient u *ℤ number vs u) (λ u. f.coefficient u *ℤ number vs u) (length vs)
    (λ u b. ap (λ z. z *ℤ number vs u)
    (at_number f.coefficient 0 n u (pos 0) (omega (arith, b, long)) ∙ ap f.coefficient (let e : 0 + u ≡ u = omega arith in e))) in
    omega (arith, ints, row_valued vs row, value_is vs (form_of_row row), value_is vs f, same)

abbrev pub Met : List ℕ → List UnknownForm → Type 0
Met vs fs = AllByRecursion (λ row. pos 0 ≤ℤ form_value vs row) fs

pub rows_met : (n : ℕ) (vs : List ℕ) → length vs ≡ n → (fs : List UnknownForm) (bounds : List Bound)
    → AllHold vs (map (row_of_form n) fs ++ map bound_row bounds) → Met vs (fs ++ map (λ b. form_of_row (bound_row b)) bounds)
rows_met n vs long [] [] h = tt
rows_met n vs long [] (b ∷ bounds) h = (omega (arith, ints, h.0, row_valued vs (bound_row b)), rows_met n vs long [] bounds h.1)
rows_met n vs long (f ∷ fs) bounds h = (omega (arith, ints, h.0, form_valued n vs f long), rows_met n vs long fs bounds h.1)

pub rows_hold : (n : ℕ) (vs : List ℕ) → length vs ≡ n → (fs : List UnknownForm) (bounds : List Bound)
    → Met vs (fs ++ map (λ b. form_of_row (bound_row b)) bounds) → AllHold vs (map (row_of_form n) fs ++ map bound_row bounds)
rows_hold n vs long [] [] h = tt
rows_hold n vs long [] (b ∷ bounds) h = (omega (arith, ints, h.0, row_valued vs (bound_row b)), rows_hold n vs long [] bounds h.1)
rows_hold n vs long (f ∷ fs) bounds h = (omega (arith, ints, h.0, form_valued n vs f long), rows_hold n vs long fs bounds h.1)

-- ---- rows that are known
known_start : (s z : ℤ) → if_fits s ≡ Some z → s ≡ z
known_start s z e = by_fit (fits s) e where
  by_fit : (b : Bool) → cond b (Some s) None ≡ Some z → s ≡ z
  by_fit true f = same_Some s z f
  by_fit false f = absurd (cc)

known_next : (o : Option ℤ) (product z : ℤ) → with_product o product ≡ Some z → (s : ℤ) × (o ≡ Some s) × ((s +ℤ product) ≡ z)
known_next None product z e = absurd (cc)
known_next (Some s) product z e = by_fit (fits product && fits (s +ℤ product)) e where
  by_fit : (b : Bool) → cond b (Some (s +ℤ product)) None ≡ Some z → (y : ℤ) × (Some s ≡ Some y) × ((y +ℤ product) ≡ z)
  by_fit true f = (s, refl, same_Some (s +ℤ product) z f)
  by_fit false f = absurd (cc)

sum_next : (f : ℕ → ℤ) (n : ℕ) → total f (range_with_len 0 (suc n)) ≡ (total f (range_with_len 0 n) +ℤ f n)
unfolding total
sum_next f n =
    ap (total f) (range_more 0 n) ∙ (let e : 0 + n ≡ n = omega arith in omega (arith, ints, total-append f (range_with_len 0 n) ((0 + n) ∷ []), ap f e))

pub mapped_at : (vs : List ℕ) (u : ℕ) → get_or (map pos vs) u (pos 0) ≡ number vs u
mapped_at [] u = refl
mapped_at (v ∷ vs) zero = refl
mapped_at (v ∷ vs) (suc u) = mapped_at vs u

known_sum : (c : ℕ → ℤ) (vs : List ℕ) (start : ℤ) (n : ℕ) (z : ℤ) → with_products c (map pos vs) (if_fits start) n ≡ Some z
    → z ≡ (start +ℤ total (λ u. c u *ℤ number vs u) (range_with_len 0 n))
unfolding total
known_sum c vs start zero z e = omega (arith, ints, known_start start z e)
known_sum c vs start (suc n) z e =
    let w = known_next (with_products c (map pos vs) (if_fits start) n) (c n *ℤ get_or (map pos vs) n (pos 0)) z e in
    omega (arith, ints, known_sum c vs start n w.0 w.1, w.2, ap (λ x. c n *ℤ x) (mapped_at vs n), sum_next (λ u. c u *ℤ number vs u) n)

-- a form's value at natural values, if it is known
pub known_is : (vs : List ℕ) (f : UnknownForm) (z : ℤ) → known_value (natural_values vs) f ≡ Some z → z ≡ form_value vs f
unfolding range_sum
known_is vs f z e =
    let sum = known_sum f.coefficient vs (f.constant *ℤ pos 1) (length (map pos vs)) z e in
    let long = ap (λ n. total (λ u. f.coefficient u *ℤ number vs u) (range_with_len 0 n)) (length-map vs pos) in
    omega (arith, ints, sum, long, value_is vs f)

natural_so : (o : Option ℤ) (z : ℤ) → ((y : ℤ) → o ≡ Some y → y ≡ z) → is_known_natural o ≡ true → pos 0 ≤ℤ z
natural_so None z h e = absurd (false≢true e)
natural_so (Some (pos n)) z h e = omega (arith, ints, h (pos n) refl)
natural_so (Some (negsuc n)) z h e = absurd (false≢true e)

-- rows that are known and met are met
pub known_met : (vs : List ℕ) (fs : List UnknownForm) → list_all (λ f. is_known_natural (known_value (natural_values vs) f)) fs ≡ true → Met vs fs
known_met vs [] h = tt
known_met vs (f ∷ fs) h =
    let both = and_parts (is_known_natural (known_value (natural_values vs) f)) (list_all (λ g. is_known_natural (known_value (natural_values vs) g)) fs) h in
    (natural_so (known_value (natural_values vs) f) (form_value vs f) (known_is vs f) both.0, known_met vs fs both.1)
