-- the rows of a system that a list of row numbers names
use Rattle.ta_encode.proofs.Common.{◌≡◌, ℕ, zero, suc, ◌+◌, ◌-◌, ◌<◌, ◌≤◌, ℤ, pos, List, [], ◌∷◌, ◌++◌, length, map, take, slice_get, Some, arith, sym, ap, ◌∙◌}
use Rattle.ta_encode.proofs.Common.{refl, subst, length-append, inl, inr, cases_lt, take-length, IsNormal, coefficient, AllBelow, Row, LinearRow, Bound}
use Rattle.ta_encode.proofs.Common.{bound_row, IsRowOf, AreRowsOf, row_numbered, rows_named, row_number_at, AreThere, NamesRows, AreWritten, AddsRows}
use Rattle.ta_encode.proofs.CodeRows.{rows_count}
use Rattle.ta_encode.specs.declared.named.Named.TheVariants.{Absent}
use Rattle.ta_encode.proofs.Adding.{adds_one, map_more}

-- the row of a number is that of the word, and is there
row_there : (ls ms : List LinearRow) (rs : List Row) (n : ℕ) (r : Row) → AreRowsOf ls rs → slice_get rs n ≡ Some r → (n < length (ls ++ ms))
    × IsRowOf (row_numbered (ls ++ ms) n) r
row_there [] ms [] n r is e = absurd (cc)
row_there (l ∷ ls) ms (x ∷ rs) zero r is e = let same : x ≡ r = cc in (omega arith, subst (IsRowOf l) same is.0)
row_there (l ∷ ls) ms (x ∷ rs) (suc n) r is e = let rest = row_there ls ms rs n r is.1 e in (let below = rest.0 in omega arith, rest.1)
row_there [] ms (x ∷ rs) n r is e = absurd is
row_there (l ∷ ls) ms [] n r is e = absurd is

below_there : (n : ℕ) (rs : List Row) (k : ℕ) (r : Row) → AllBelow n rs → slice_get rs k ≡ Some r → IsNormal 0 n r.form.terms
below_there n [] k r below e = absurd (cc)
below_there n (x ∷ rs) zero r below e = let same : x ≡ r = cc in subst (λ (y : Row). IsNormal 0 n y.form.terms) same below.0
below_there n (x ∷ rs) (suc k) r below e = below_there n rs k r below.1 e

-- a copy of a row of the word is written
pub adds_copy : (ls ms : List LinearRow) (rs : List Row) (n unknowns : ℕ) (r copy : Row) (before after : List Row) → AreRowsOf ls rs → AllBelow unknowns rs
    → slice_get rs n ≡ Some r → copy.form.constant ≡ r.form.constant → copy.form.terms ≡ r.form.terms → after ≡ before ++ copy ∷ []
    → (n < length (ls ++ ms)) × AddsRows (row_numbered (ls ++ ms) n ∷ []) unknowns before after
adds_copy ls ms rs n unknowns r copy before after is below at constant terms e =
    let there = row_there ls ms rs n r is at in
    let of : IsRowOf (row_numbered (ls ++ ms) n) copy = record {
      constant = constant ∙ there.1.constant;
      coefficients = λ u. ap (λ ts. coefficient ts u) terms ∙ there.1.coefficients u;
    } in (
      there.0,
      adds_one unknowns before after (row_numbered (ls ++ ms) n) copy of
          (subst (IsNormal 0 unknowns) (sym terms) (below_there unknowns rs n r below at)) e,
    )

-- the row of a number behind the word's is that of a bound
behind_word : (ls : List LinearRow) (bs : List Bound) (n at : ℕ) (b : Bound) → n ≡ length ls + at → slice_get bs at ≡ Some b
    → (n < length (ls ++ map bound_row bs)) × (row_numbered (ls ++ map bound_row bs) n ≡ bound_row b)
behind_word [] [] n at b e is = absurd (cc)
behind_word [] (x ∷ bs) n zero b e is =
    let same : x ≡ b = cc in
    let none : n ≡ 0 = omega arith in
    (omega arith, ap (row_numbered (map bound_row (x ∷ bs))) none ∙ ap bound_row same)
behind_word [] (x ∷ bs) n (suc at) b e is =
    let more : n ≡ suc at = omega arith in
    let rest = behind_word [] bs at at b (omega arith) is in
    (let below = rest.0 in omega arith, ap (row_numbered (map bound_row (x ∷ bs))) more ∙ rest.1)
behind_word (l ∷ ls) bs zero at b e is = absurd (omega arith)
behind_word (l ∷ ls) bs (suc n) at b e is =
    let rest = behind_word ls bs n at b (omega arith) is in
    (let below = rest.0 in omega arith, rest.1)

-- the row of a bound is written
pub adds_bound : (ls : List LinearRow) (bs : List Bound) (rs : List Row) (n unknowns : ℕ) (b : Bound) (before after : List Row) → AreRowsOf ls rs
    → length rs ≤ n → slice_get bs (n - length rs) ≡ Some b → AddsRows (bound_row b ∷ []) unknowns before after
    → (n < length (ls ++ map bound_row bs)) × AddsRows (row_numbered (ls ++ map bound_row bs) n ∷ []) unknowns before after
adds_bound ls bs rs n unknowns b before after is past at added =
    let count = rows_count ls rs is in
    let there = behind_word ls bs n (n - length rs) b (omega arith) at in
    (there.0, subst (λ (l : LinearRow). AddsRows (l ∷ []) unknowns before after) (sym there.1) added)

-- there is no row of a number
pub no_row : (ls : List LinearRow) (bs : List Bound) (rs : List Row) (n : ℕ) → AreRowsOf ls rs → length rs ≤ n → length bs ≤ n - length rs
    → length (ls ++ map bound_row bs) ≤ n
no_row ls bs rs n is past none = omega (arith, rows_count ls rs is, length-append ls (map bound_row bs), mapped bs)
  where
    mapped : (bs : List Bound) → length (map bound_row bs) ≡ length bs
    mapped [] = refl
    mapped (b ∷ bs) = ap suc (mapped bs)

-- the rows that the front of a list names were written
pub record NamedSoFar (rows : List LinearRow) (unknowns : ℕ) (ts : List (ℕ × ℤ)) (i : ℕ) (written : List Row) : Type 0 where
  pub are : AreWritten (rows_named rows (take i ts)) unknowns written
  pub there : (j : ℕ) → j < i → row_number_at ts j < length rows

pub names_none : (rows : List LinearRow) (unknowns : ℕ) (ts : List (ℕ × ℤ)) (written : List Row) → written ≡ [] → NamedSoFar rows unknowns ts 0 written
names_none rows unknowns ts written none = record {
  are = subst (AreWritten [] unknowns) (sym none) (record { rows_of = tt; below = tt });
  there = λ j below. absurd (omega arith);
}

pub names_more : (rows : List LinearRow) (unknowns : ℕ) (ts : List (ℕ × ℤ)) (i : ℕ) (before after : List Row) → i < length ts
    → NamedSoFar rows unknowns ts i before → (row_number_at ts i < length rows) × AddsRows (row_numbered rows (row_number_at ts i) ∷ []) unknowns before after
    → NamedSoFar rows unknowns ts (i + 1) after
names_more rows unknowns ts i before after within so added = record {
  are = subst (λ ls. AreWritten ls unknowns after) (map_more (λ (t : ℕ × ℤ). row_numbered rows t.0) ts i (0, pos 0) within)
      (added.1.rows (rows_named rows (take i ts)) so.are);
  there = λ j below. elim (cases_lt j i) [
    | inl before ↦ so.there j before
    | inr from ↦ let same : i ≡ j = omega arith in subst (λ k. row_number_at ts k < length rows) same added.0
  ];
}

-- all that a list names was written
pub names_all : (rows : List LinearRow) (unknowns : ℕ) (ts : List (ℕ × ℤ)) (i : ℕ) (written given : List Row) → NamedSoFar rows unknowns ts i written
    → i ≡ length ts → given ≡ written → AreRowsOf (rows_named rows ts) given × AreThere (length rows) ts
names_all rows unknowns ts i written given so end same =
    let whole : take i ts ≡ ts = ap (λ k. take k ts) end ∙ take-length ts in (
      subst (AreRowsOf (rows_named rows ts)) (sym same) (subst (λ (us : List (ℕ × ℤ)). AreRowsOf (rows_named rows us) written) whole so.are.rows_of),
      λ j below. so.there j (omega arith),
    )

-- the next number has no row
pub names_absent : (rows : List LinearRow) (unknowns : ℕ) (ts : List (ℕ × ℤ)) (i number : ℕ) (written : List Row) → NamedSoFar rows unknowns ts i written
    → i < length ts → row_number_at ts i ≡ number → length rows ≤ number → NamesRows rows unknowns ts (Absent number)
names_absent rows unknowns ts i number written so below is absent = record { at = i; below = below; is = is; absent = absent; first = so.there }
