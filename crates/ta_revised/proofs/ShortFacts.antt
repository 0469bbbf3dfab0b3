-- rows in short numbers: one more, fewer, and one of them
use Rattle.ta_revised.proofs.Common.{◌≡◌, ◌≤◌, ◌<◌, ◌+◌, ◌-◌, ◌^◌, ◌∙◌, ◌++◌, ◌∷◌, [], List, zero, suc, ℕ, ℤ, ap, arith, append_assoc, drop, get_or, length}
use Rattle.ta_revised.proofs.Common.{map, refl, subst, sym, take, IsSomeAnd, Option, Some, slice_get, unsigned_abs, FitsSigned, fits_signed_from_abs, to_z-of_z}
use Rattle.ta_revised.proofs.Common.{drop_more, get_or-map, length-append, length-map, map-append, All-append, All-cons, slice_get-get_or, w32, terms_at}
use Rattle.ta_revised.proofs.Common.{IsNormal, Row, System, IsModestRow, weight_of, row_value, AreShort, parts_value, ShortRow}
use Rattle.std.proofs.Common.{to_z, of_z}
use Rattle.std.proofs.Math.Seq.{drop-append_seam}
use Rattle.std.proofs.lemmas.List.{drop-take, length-take-le, take-append-le, take-map, take_all}
use Rattle.std.proofs.lemmas.List.{take_more}
use Rattle.std.proofs.lemmas.List.Elements.{All-get_or, All-take}
use Rattle.std.specs.Int.{w128}
use Rattle.std.specs.List.{slice_range}
use Rattle.ta_base.proofs.Lists.{fewer_alike, slice_range-end}
use Rattle.ta_revised.specs.ShortRows.{StandBetween, row_parts, short_parts}
use Rattle.ta_revised.specs.declared.short_rows.ShortRows.{ShortRows}

-- terms that were written so far
pub record TermsWritten (before after terms : List (ℕ × ℤ)) (count : ℕ) : Type 0 where
  pub are : after ≡ before ++ take count terms
  pub small : weight_of (drop count terms) ≤ 2 ^ 16

-- a term in 32 bits is the same
short_term : (t : ℕ × ℤ) → unsigned_abs t.1 ≤ 2 ^ 16 → to_z w32 (of_z w32 (to_z w128 (of_z w128 t.1))) ≡ t.1
short_term t few =
    let wide : FitsSigned w128 t.1 = fits_signed_from_abs w128 t.1 (omega arith) in
    let short : FitsSigned w32 t.1 = fits_signed_from_abs w32 t.1 (omega arith) in
    rw (to_z-of_z w128 t.1 wide, to_z-of_z w32 t.1 short) refl

-- the next term is small
pub next_small : (before after terms : List (ℕ × ℤ)) (i : ℕ) (d : ℕ × ℤ) → i < length terms → TermsWritten before after terms i
    → unsigned_abs (get_or terms i d).1 ≤ 2 ^ 16
next_small before after terms i d h w = let m = rw (drop_more terms i d h) at w.small in omega (arith, m)

-- one more
pub one_written : (before after terms : List (ℕ × ℤ)) (i : ℕ) (d : ℕ × ℤ) → i < length terms → TermsWritten before after terms i
    → TermsWritten before (after ++ ((get_or terms i d).0, to_z w32 (of_z w32 (to_z w128 (of_z w128 (get_or terms i d).1)))) ∷ []) terms (i + 1)
one_written before after terms i d h w =
    let m = rw (drop_more terms i d h) at w.small in
    record {
      are = rw (short_term (get_or terms i d) (next_small before after terms i d h w))
          (ap (λ ts. ts ++ get_or terms i d ∷ []) w.are ∙ append_assoc before (take i terms) (get_or terms i d ∷ [])
          ∙ ap (λ ts. before ++ ts) (sym (take_more terms i d h)));
      small = omega (arith, m);
    }

-- the rows' places rise
stand_rising : (from : ℕ) (rs : List ShortRow) (to : ℕ) → StandBetween from rs to → from ≤ to
stand_rising from [] to s = s
stand_rising from (r ∷ rs) to s =
    let rest = stand_rising r.to rs to s.2 in
    let first = s.0 in
    let own = s.1 in
    omega arith

-- they stand before a later place, too
pub stand_further : (from : ℕ) (rs : List ShortRow) (to more : ℕ) → to ≤ more → StandBetween from rs to → StandBetween from rs more
stand_further from [] to more h s = omega arith
stand_further from (r ∷ rs) to more h s = (s.0, s.1, stand_further r.to rs to more h s.2)

-- with one more behind them
stand_pushed : (from : ℕ) (rs : List ShortRow) (to : ℕ) (r : ShortRow) → to ≤ r.from → r.from ≤ r.to → StandBetween from rs to
    → StandBetween from (rs ++ r ∷ []) r.to
stand_pushed from [] to r f t s = (omega arith, t, omega arith)
stand_pushed from (x ∷ rs) to r f t s = (s.0, s.1, stand_pushed x.to rs to r f t s.2)

-- the first of them stand before the next one
stand_cut : (from : ℕ) (rs : List ShortRow) (to count : ℕ) (d : ShortRow) → count < length rs → StandBetween from rs to
    → StandBetween from (take count rs) (get_or rs count d).from
stand_cut from [] to count d h s = absurd (omega arith)
stand_cut from (r ∷ rs) to zero d h s = s.0
stand_cut from (r ∷ rs) to (suc count) d h s = (s.0, s.1, stand_cut r.to rs to count d (omega arith) s.2)

-- where one of them stands
pub record StandsAt (r : ShortRow) (to : ℕ) : Type 0 where
  pub own : r.from ≤ r.to
  pub within : r.to ≤ to

pub stands_at : (from : ℕ) (rs : List ShortRow) (to i : ℕ) (d : ShortRow) → i < length rs → StandBetween from rs to → StandsAt (get_or rs i d) to
stands_at from [] to i d h s = absurd (omega arith)
stands_at from (r ∷ rs) to zero d h s = record { own = s.1; within = stand_rising r.to rs to s.2 }
stands_at from (r ∷ rs) to (suc i) d h s = stands_at r.to rs to i d (omega arith) s.2

-- a part of terms whose first are the same
same_range : (ts us : List (ℕ × ℤ)) (a b to : ℕ) → a ≤ b → b ≤ to → take to ts ≡ take to us → slice_range ts a b ≡ slice_range us a b
same_range ts us a b to h k e =
    let whole : a + (b - a) ≡ b = omega arith in
    sym (drop-take a (b - a) ts) ∙ ap (λ n. drop a (take n ts)) whole ∙ ap (drop a) (fewer_alike b to ts us k e)
    ∙ ap (λ n. drop a (take n us)) (sym whole) ∙ drop-take a (b - a) us

-- rows mean the same where the terms up to their end are the same
same_parts : (from : ℕ) (rs : List ShortRow) (to : ℕ) (ts us : List (ℕ × ℤ)) → take to ts ≡ take to us → StandBetween from rs to
    → map (short_parts ts) rs ≡ map (short_parts us) rs
same_parts from [] to ts us e s = refl
same_parts from (r ∷ rs) to ts us e s =
    let same = same_range ts us r.from r.to to s.1 (stand_rising r.to rs to s.2) e in
    let rest = same_parts r.to rs to ts us e s.2 in
    rw (same, rest) refl

-- rows in short numbers are as many
pub short_count : (s : ShortRows) (rows : List Row) → AreShort s rows → length s.rows.items ≡ length rows
short_count s rows a = sym (length-map s.rows.items (short_parts s.terms.items)) ∙ ap length a.are ∙ length-map rows row_parts

-- more terms behind them
pub short_further : (s t : ShortRows) (more : List (ℕ × ℤ)) (rows : List Row) → t.terms.items ≡ s.terms.items ++ more → t.rows.items ≡ s.rows.items
    → AreShort s rows → AreShort t rows
short_further s t more rows e f a =
    let first : take (length s.terms.items) t.terms.items ≡ take (length s.terms.items) s.terms.items = ap (take (length s.terms.items)) e
    ∙ take-append-le (length s.terms.items) s.terms.items more (omega arith) in
    let longer : length s.terms.items ≤ length t.terms.items = omega (arith, ap length e, length-append s.terms.items more) in
    record {
      order = rw f (stand_further 0 s.rows.items (length s.terms.items) (length t.terms.items) longer a.order);
      are = rw f (same_parts 0 s.rows.items (length s.terms.items) t.terms.items s.terms.items first a.order ∙ a.are);
      modest = a.modest;
    }

-- one more row, whose terms stand behind all others
pub short_pushed : (s t : ShortRows) (r : ShortRow) (row : Row) (rows : List Row) → t.terms.items ≡ s.terms.items ++ row.form.terms
    → t.rows.items ≡ s.rows.items ++ r ∷ [] → r.constant ≡ row.form.constant → r.from ≡ length s.terms.items → r.to ≡ length t.terms.items
    → IsModestRow row → AreShort s rows → AreShort t (rows ++ row ∷ [])
short_pushed s t r row rows e f constant from to modest a =
    let longer : length t.terms.items ≡ length s.terms.items + length row.form.terms = ap length e ∙ length-append s.terms.items row.form.terms in
    let first : take (length s.terms.items) t.terms.items ≡ take (length s.terms.items) s.terms.items = ap (take (length s.terms.items)) e
    ∙ take-append-le (length s.terms.items) s.terms.items row.form.terms (omega arith) in
    let order = stand_pushed 0 s.rows.items (length s.terms.items) r (omega (arith, from)) (omega (arith, from, to, longer)) a.order in
    let others = same_parts 0 s.rows.items (length s.terms.items) t.terms.items s.terms.items first a.order ∙ a.are in
    let terms : slice_range t.terms.items r.from r.to ≡ row.form.terms = slice_range-end t.terms.items r.from r.to to
    ∙ ap (λ n. drop n t.terms.items) from ∙ ap (drop (length s.terms.items)) e ∙ drop-append_seam s.terms.items row.form.terms in
    let own : short_parts t.terms.items r ≡ row_parts row = rw (constant, terms) refl in
    record {
      order = rw f (subst (λ (n : ℕ). StandBetween 0 (s.rows.items ++ r ∷ []) n) to order);
      are = rw f (map-append (short_parts t.terms.items) s.rows.items (r ∷ []) ∙ rw (others, own) (sym (map-append row_parts rows (row ∷ []))));
      modest = All-append IsModestRow rows (row ∷ []) a.modest (All-cons IsModestRow row [] modest (λ i d h. absurd (omega arith)));
    }

-- the first of them, and the terms before the next one
pub short_cut : (s t : ShortRows) (rows : List Row) (count : ℕ) (d : ShortRow) → count < length s.rows.items
    → t.terms.items ≡ take (get_or s.rows.items count d).from s.terms.items → t.rows.items ≡ take count s.rows.items → AreShort s rows
    → AreShort t (take count rows)
short_cut s t rows count d h e f a =
    let end : ℕ = (get_or s.rows.items count d).from in
    let at = stands_at 0 s.rows.items (length s.terms.items) count d h a.order in
    let own = at.own in
    let within = at.within in
    let cut = stand_cut 0 s.rows.items (length s.terms.items) count d h a.order in
    let long : length t.terms.items ≡ end = ap length e ∙ length-take-le end s.terms.items (omega arith) in
    let same : take end t.terms.items ≡ take end s.terms.items = take_all end t.terms.items (omega (arith, long)) ∙ e in
    record {
      order = rw f (subst (λ (n : ℕ). StandBetween 0 (take count s.rows.items) n) (sym long) cut);
      are = rw f (same_parts 0 (take count s.rows.items) end t.terms.items s.terms.items same cut
          ∙ sym (take-map (short_parts s.terms.items) count s.rows.items)
          ∙ ap (take count) a.are ∙ take-map row_parts count rows);
      modest = All-take IsModestRow count rows a.modest;
    }

-- the first of some items
first_item : {X : Type 0} (xs : List X) (i : ℕ) → i < length xs → X
first_item [] i h = absurd (omega arith)
first_item (x ∷ xs) i h = x

-- one of a system's rows: where its terms stand, and what it is
pub record ShortAt (s : ShortRows) (l : System) (i : ℕ) (r : ShortRow) : Type 0 where
  pub stands : StandsAt r (length s.terms.items)
  pub within : i < length l.rows
  pub row : Row
  pub is : slice_get l.rows i ≡ Some row
  pub parts : short_parts s.terms.items r ≡ row_parts row
  pub modest : IsModestRow row
  pub normal : IsNormal 0 l.unknowns row.form.terms

pub short_in : (s : ShortRows) (l : System) (i count known : ℕ) (d r : ShortRow) → i < count → count ≡ known → known ≡ length s.rows.items
    → r ≡ get_or s.rows.items i d → AreShort s l.rows → ShortAt s l i r
short_in s l i count known d r below c k e a =
    let h : i < length s.rows.items = omega (arith, c, k) in
    let within : i < length l.rows = omega (arith, short_count s l.rows a) in
    let x = first_item l.rows i within in
    let same = sym (get_or-map (short_parts s.terms.items) s.rows.items i d (row_parts x) h) ∙ ap (λ ps. get_or ps i (row_parts x)) a.are
    ∙ get_or-map row_parts l.rows i x (row_parts x) within in
    record {
      stands = rw e (stands_at 0 s.rows.items (length s.terms.items) i d h a.order);
      within = within;
      row = get_or l.rows i x;
      is = slice_get-get_or l.rows i x within;
      parts = ap (short_parts s.terms.items) e ∙ same;
      modest = All-get_or IsModestRow l.rows i x within a.modest;
      normal = terms_at l.unknowns l.rows i x l.within within;
    }

-- what holds for it
pub holds_at : (s : ShortRows) (l : System) (i : ℕ) (r : ShortRow) (P : Row → Type 0) (at : ShortAt s l i r) → P at.row → IsSomeAnd (slice_get l.rows i) P
holds_at s l i r P at p = subst (λ (o : Option Row). IsSomeAnd o P) (sym at.is) p

-- its numbers are as modest in short
pub modest_at : (s : ShortRows) (l : System) (i : ℕ) (r : ShortRow) → ShortAt s l i r
    → unsigned_abs r.constant + weight_of (slice_range s.terms.items r.from r.to) ≤ 2 ^ 16
modest_at s l i r at = subst (λ (p : ℤ × List (ℕ × ℤ)). unsigned_abs p.0 + weight_of p.1 ≤ 2 ^ 16) (sym at.parts) at.modest

-- and its terms as normal
pub normal_at : (s : ShortRows) (l : System) (i : ℕ) (r : ShortRow) → ShortAt s l i r → IsNormal 0 l.unknowns (slice_range s.terms.items r.from r.to)
normal_at s l i r at = subst (λ (p : ℤ × List (ℕ × ℤ)). IsNormal 0 l.unknowns p.1) (sym at.parts) at.normal

-- its value is that of its system's row
pub value_at : (s : ShortRows) (l : System) (i : ℕ) (r : ShortRow) (scale : ℕ) (values : List ℤ) (at : ShortAt s l i r)
    → parts_value scale values (r.constant, slice_range s.terms.items r.from r.to) ≡ row_value scale values at.row
value_at s l i r scale values at = ap (parts_value scale values) at.parts

-- a modest row's constant in 32 bits is the same
pub short_constant : (r : Row) → IsModestRow r → to_z w32 (of_z w32 (to_z w128 (of_z w128 r.form.constant))) ≡ r.form.constant
short_constant r modest = short_term (0, r.form.constant) (omega (arith, modest))
