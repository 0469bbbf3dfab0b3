-- multiples and divisors of a common scale
use Rattle.ta_revised.proofs.Common.{ℕ, ℤ, ◌<◌, ◌≤◌, ◌≡◌, ◌+◌, ◌/◌, ◌*◌, ◌^◌, ◌∙◌, ◌*ℤ◌, ◌<ℤ◌, FitsSigned, List, arith, ap, below_more, get_or, inl, inr}
use Rattle.ta_revised.proofs.Common.{length, replicate, set, pos, refl, subst, sym, unsigned_abs, zero, suc, one-dvd, mul-le-mul, cases_eq, ints, to_z-of_z}
use Rattle.ta_revised.proofs.Common.{to_z_pos, unsigned_abs-mul, get_or-map, length-map, length-replicate, length-set, ◌∣◌, w64, pos_abs, replicate_zeros}
use Rattle.ta_revised.proofs.Common.{times_assoc, no_row, AreValues, unknown_row, unknown_rows, IsColumn, ListsBasic, UnknownRow, Column, Basic}
use Rattle.std.proofs.Common.{of_z, to_z}
use Rattle.std.proofs.Math.Nat.{mul-div_cancel', dvd-mul_right, dvd-mul_left, eq-zero_of_zero-dvd, div-le_self}
use Rattle.std.proofs.lemmas.List.{get_or-set_same, get_or-set_other}
use Rattle.std.proofs.lemmas.Nat.Gcd.{dvd_trans}
use Rattle.std.specs.Int.{w16}

-- a divisor of a positive number is positive
pub divisor_above : (g n : ℕ) → 0 < n → g ∣ n → 0 < g
divisor_above zero n some d = absurd (omega (arith, eq-zero_of_zero-dvd d))
divisor_above (suc g) n some d = omega arith

-- a number divides the quotient by a common divisor, times the other
pub divides_multiple : (n d g : ℕ) → g ∣ n → g ∣ d → n ∣ n / g * d
divides_multiple n d g first second =
    let left = ap (λ (m : ℕ). m * (d / g)) (mul-div_cancel' g first) in
    let right = ap (λ (m : ℕ). n / g * m) (mul-div_cancel' g second) in
    let e : n * (d / g) ≡ n / g * d = omega (arith, left, right) in
    subst (λ (m : ℕ). n ∣ m) e (dvd-mul_right n (d / g))

-- the quotient by a divisor is positive
pub quotient_above : (g n : ℕ) → 0 < n → g ∣ n → 0 < n / g
quotient_above g n some d = divisor_above (n / g) n some (subst (λ (m : ℕ). n / g ∣ m) (mul-div_cancel' g d) (dvd-mul_left (n / g) g))

-- the row of an unknown
pub unknown_at : (columns : ℕ) (rows : List UnknownRow) (u : ℕ) (r d : UnknownRow) → u < length rows → r ≡ get_or rows u d
    → get_or (unknown_rows columns rows) u no_row ≡ unknown_row columns r
unknown_at columns rows u r d h is = get_or-map (unknown_row columns) rows u d no_row h ∙ ap (unknown_row columns) (sym is)

-- the scale is a multiple of the denominators of the first listed unknowns' rows
abbrev pub ListedDivide : ℕ → ℕ → List UnknownRow → List ℕ → ℕ → Type 0
ListedDivide columns scale rows us k =
    (i : ℕ) → i < k → unsigned_abs (get_or (unknown_rows columns rows) (get_or us i 0) no_row).denominator ∣ scale

-- one more
pub listed_divide : (columns scale next : ℕ) (rows : List UnknownRow) (us : List ℕ) (k : ℕ) (r d : UnknownRow) → get_or us k 0 < length rows
    → r ≡ get_or rows (get_or us k 0) d → scale ∣ next → unsigned_abs (unknown_row columns r).denominator ∣ next
    → ListedDivide columns scale rows us k → ListedDivide columns next rows us (k + 1)
listed_divide columns scale next rows us k r d h is multiple this before =
    below_more (λ (i : ℕ). unsigned_abs (get_or (unknown_rows columns rows) (get_or us i 0) no_row).denominator ∣ next) k
    (λ i less. dvd_trans _ (before i less) multiple) (rw (unknown_at columns rows (get_or us k 0) r d h is) this)

-- the row of an unknown that belongs to a column
unit_denominator : (columns : ℕ) (x : UnknownRow) → IsColumn x → (unknown_row columns x).denominator ≡ pos 1
unit_denominator columns (Column v column) is = refl
unit_denominator columns (Basic _) is = elim is [ ]

unit_constant : (columns : ℕ) (x : UnknownRow) → IsColumn x → (unknown_row columns x).constant ≡ pos 0
unit_constant columns (Column v column) is = refl
unit_constant columns (Basic _) is = elim is [ ]

-- so the scale is a multiple of all denominators
pub all_divide : (columns scale : ℕ) (rows : List UnknownRow) (us : List ℕ) (k : ℕ) → length us ≤ k → ListsBasic us rows
    → ListedDivide columns scale rows us k → (u : ℕ) → u < length (unknown_rows columns rows)
    → unsigned_abs (get_or (unknown_rows columns rows) u no_row).denominator ∣ scale
all_divide columns scale rows us k all lists listed u h =
    let none : UnknownRow = Column 0 0 in
    let below : u < length rows = (let l = length-map rows (unknown_row columns) in omega arith) in
    elim (lists.others u none below) [
      | inl column ↦ rw (unknown_at columns rows u (get_or rows u none) none below refl, unit_denominator columns (get_or rows u none) column) (one-dvd scale)
      | inr (i, low, e) ↦ subst (λ (v : ℕ). unsigned_abs (get_or (unknown_rows columns rows) v no_row).denominator ∣ scale) e (listed i (omega arith))
    ]

-- the product of a quotient and a number, as it is computed
pub computed_quotient : (scale n : ℕ) (z : ℤ) → scale < 2 ^ 15 → FitsSigned w16 z
    → to_z w64 (scale / n) *ℤ to_z w64 (of_z w64 (to_z w16 (of_z w16 z))) ≡ pos (scale / n) *ℤ z
computed_quotient scale n z few fits =
    let wide : FitsSigned w64 z = omega (arith, ints, fits) in
    rw (to_z-of_z w16 z fits, to_z-of_z w64 z wide, to_z_pos w64 (scale / n) (omega (arith, div-le_self scale n))) refl

-- the product is the scale's where the number divides the scale
pub scaled_value : (scale : ℕ) (d z : ℤ) → pos 0 <ℤ d → unsigned_abs d ∣ scale → d *ℤ (pos (scale / unsigned_abs d) *ℤ z) ≡ pos scale *ℤ z
scaled_value scale d z positive divides =
    let whole : d *ℤ pos (scale / unsigned_abs d) ≡ pos scale =
    ap (λ (x : ℤ). x *ℤ pos (scale / unsigned_abs d)) (sym (pos_abs d positive)) ∙ ap pos (mul-div_cancel' (unsigned_abs d) divides) in
    sym (times_assoc d (pos (scale / unsigned_abs d)) z) ∙ ap (λ (x : ℤ). x *ℤ z) whole

-- the product is small
pub quotient_small : (scale n : ℕ) (z : ℤ) → scale < 2 ^ 15 → unsigned_abs z < 2 ^ 31 → unsigned_abs (pos (scale / n) *ℤ z) ≤ 2 ^ 46
quotient_small scale n z few small =
    let low : scale / n ≤ 2 ^ 15 = omega (arith, div-le_self scale n) in
    let high : unsigned_abs z ≤ 2 ^ 31 = omega arith in
    rw (unsigned_abs-mul (pos (scale / n)) z) (omega (arith, mul-le-mul low high))

-- a number is the value of an unknown, times the scale
abbrev pub IsValue : ℕ → ℕ → List UnknownRow → ℕ → ℤ → Type 0
IsValue columns scale rows u z = (get_or (unknown_rows columns rows) u no_row).denominator *ℤ z
    ≡ pos scale *ℤ (get_or (unknown_rows columns rows) u no_row).constant

-- values of the unknowns that belong to columns, and of the first listed ones
pub record ValuesListed (columns scale : ℕ) (rows : List UnknownRow) (us : List ℕ) (values : List ℤ) (k : ℕ) : Type 0 where
  pub count : length values ≡ length rows
  pub columns_are : (u : ℕ) (d : UnknownRow) → u < length rows → IsColumn (get_or rows u d) → IsValue columns scale rows u (get_or values u (pos 0))
  pub listed_are : (i : ℕ) → i < k → IsValue columns scale rows (get_or us i 0) (get_or values (get_or us i 0) (pos 0))
  pub small : (u : ℕ) → u < length rows → unsigned_abs (get_or values u (pos 0)) ≤ 2 ^ 46

-- at first all are 0
pub values_none : (columns scale : ℕ) (rows : List UnknownRow) (us : List ℕ) (n : ℕ) → n ≡ length rows
    → ValuesListed columns scale rows us (replicate n (pos 0)) 0
values_none columns scale rows us n e = record {
  count = length-replicate n (pos 0) ∙ e;
  columns_are = λ u d h column.
      rw (
        unknown_at columns rows u (get_or rows u d) d h refl,
        unit_denominator columns (get_or rows u d) column,
        unit_constant columns (get_or rows u d) column,
        replicate_zeros n u,
      ) (omega (arith, ints));
  listed_are = λ i h. absurd (omega arith);
  small = λ u h. rw (replicate_zeros n u) (omega arith);
}

-- with the value of the next
pub values_more : (columns scale : ℕ) (rows : List UnknownRow) (us : List ℕ) (values : List ℤ) (k : ℕ) (r d : UnknownRow) (z : ℤ)
    → get_or us k 0 < length rows → r ≡ get_or rows (get_or us k 0) d
    → (unknown_row columns r).denominator *ℤ z ≡ pos scale *ℤ (unknown_row columns r).constant → unsigned_abs z ≤ 2 ^ 46
    → ValuesListed columns scale rows us values k → ValuesListed columns scale rows us (set values (get_or us k 0) z) (k + 1)
values_more columns scale rows us values k r d z h is value small before =
    let at = get_or us k 0 in
    let long = before.count in
    let here : IsValue columns scale rows (get_or us k 0) z = rw (unknown_at columns rows at r d h is) value in
    let kept : (u : ℕ) → IsValue columns scale rows u (get_or values u (pos 0))
    → IsValue columns scale rows u (get_or (set values (get_or us k 0) z) u (pos 0)) = λ u was.
    elim (cases_eq u at) [
      | inl same ↦ rw (same, get_or-set_same values at z (pos 0) (omega arith)) here
      | inr apart ↦ rw (get_or-set_other values at u z (pos 0) apart) was
    ] in
    record {
      count = length-set values at z ∙ long;
      columns_are = λ u e below column. kept u (before.columns_are u e below column);
      listed_are = below_more (λ (i : ℕ). IsValue columns scale rows (get_or us i 0) (get_or (set values (get_or us k 0) z) (get_or us i 0) (pos 0))) k
          (λ i less. kept (get_or us i 0) (before.listed_are i less)) (rw (get_or-set_same values at z (pos 0) (omega arith)) here);
      small = λ u below.
          elim (cases_eq u at) [
            | inl same ↦ rw (same, get_or-set_same values at z (pos 0) (omega arith)) small
            | inr apart ↦ rw (get_or-set_other values at u z (pos 0) apart) (before.small u below)
          ];
    }

-- in the end all are there
pub values_all : (columns scale : ℕ) (rows : List UnknownRow) (us : List ℕ) (values : List ℤ) (k : ℕ) → length us ≤ k → ListsBasic us rows
    → ValuesListed columns scale rows us values k → AreValues scale (unknown_rows columns rows) values
values_all columns scale rows us values k all lists listed =
    let none : UnknownRow = Column 0 0 in
    let l = length-map rows (unknown_row columns) in
    record {
      count = listed.count ∙ sym l;
      each = λ u h.
          elim (lists.others u none (omega arith)) [
            | inl column ↦ listed.columns_are u none (omega arith) column
            | inr (i, low, e) ↦ subst (λ (v : ℕ). IsValue columns scale rows v (get_or values v (pos 0))) e (listed.listed_are i (omega arith))
          ];
      small = λ u h. listed.small u (omega arith);
    }
