-- rows with more columns
use Rattle.ta_dense.proofs.Common.{◌≡◌, ℕ, zero, suc, ◌+◌, ◌-◌, ◌<◌, ◌≤◌, List, [], ◌∷◌, ◌++◌, length, get_or, take, drop, map, replicate, arith, refl, inl}
use Rattle.ta_dense.proofs.Common.{inr, sym, ap, ◌∙◌, subst, pos, length-append, length-replicate, map-append, take_more, length-map, length-range_with_len}
use Rattle.ta_dense.proofs.Common.{range_with_len, get_or_append_left, get_or-append_right, cases_lt, All-append, All-replicate, InRange, AllBelow, IsNormal}
use Rattle.ta_dense.proofs.Common.{Row, TableauRow, Tableau, merged, no_row, System, IsProper, FirstRefused, slack_rows, row_view, views, AreProper, DenseRow}
use Rattle.ta_dense.proofs.Common.{raised, widened, new_rows, FirstLeaving, padded, KeptPivot, kept_at, chosen_row, carried, AreKept, StayInRange}
use Rattle.ta_dense.proofs.DenseFacts.{terms_at}

pub IsProper-padded : (n basic columns : ℕ) (r : TableauRow) → IsProper n r → n ≤ columns → IsProper columns (padded basic columns r)
IsProper-padded n basic columns r p h =
    let long = p.long in
    let more = columns - length r.cells in
    let l1 = length-append r.cells (replicate more (pos 0)) in
    let l2 = length-replicate more (pos 0) in
    record {
      positive = p.positive;
      denominator = p.denominator;
      constant = p.constant;
      cells = All-append InRange r.cells (replicate more (pos 0)) p.cells (All-replicate InRange more (pos 0) (omega arith));
      long = omega arith;
    }

pub padded_widened : (u n basic : ℕ) (r : TableauRow) → length r.cells ≡ u → basic ≡ raised u n r.basic → padded basic (u + n) r ≡ widened u n r
padded_widened u n basic r long e =
    let f : u + n - length r.cells ≡ n = omega arith in
    rw (e, f) refl

-- one more row
pub map_take_more : {A : Type 0} (view : A → TableauRow) (f : TableauRow → TableauRow) (xs : List A) (i : ℕ) (x d : A) (y : TableauRow) → i < length xs
    → x ≡ get_or xs i x → y ≡ f (view x) →
    map f (map view (take i xs)) ++ y ∷ [] ≡ map f (map view (take (i + 1) xs))
map_take_more view f xs i x d y h e same =
    let more = ap (λ (zs : List _). map f (map view zs)) (take_more xs i x h) in
    let first = ap (map f) (map-append view (take i xs) (get_or xs i x ∷ [])) in
    let second = map-append f (map view (take i xs)) (view (get_or xs i x) ∷ []) in
    ap (λ (r : TableauRow). map f (map view (take i xs)) ++ r ∷ []) (same ∙ ap (λ (z : _). f (view z)) e) ∙ sym (more ∙ first ∙ second)

pub AllBelow-drop : (n k : ℕ) (rs : List Row) → AllBelow n rs → AllBelow n (drop k rs)
AllBelow-drop n zero rs all = all
AllBelow-drop n (suc k) [] all = all
AllBelow-drop n (suc k) (r ∷ rs) all = AllBelow-drop n k rs all.1

-- a row behind the first ones of a system's
pub dropped_normal : (u first k : ℕ) (rows whole list : List Row) (r : Row) → whole ≡ rows → list ≡ drop first whole → AllBelow u rows → k < length list
    → r ≡ get_or list k r → IsNormal 0 u r.form.terms
dropped_normal u first k rows whole list r all behind below inside is =
    let they : AllBelow u list = subst (AllBelow u) (sym (behind ∙ ap (drop first) all)) (AllBelow-drop u first rows below) in
    subst (λ (q : Row). IsNormal 0 u q.form.terms) (sym is) (terms_at u list k r they inside)

-- one more pivot
pub carried_more : (columns j : ℕ) (ks : List KeptPivot) (rows : List TableauRow)
    → carried columns ks (j + 1) rows ≡ map (merged (kept_at ks j).column (chosen_row columns (kept_at ks j))) (carried columns ks j rows)
carried_more columns j ks rows = let e : j + 1 ≡ suc j = omega arith in ap (λ (i : ℕ). carried columns ks i rows) e

pub length-carried : (columns j : ℕ) (ks : List KeptPivot) (rows : List TableauRow) → length (carried columns ks j rows) ≡ length rows
length-carried columns zero ks rows = refl
length-carried columns (suc j) ks rows = length-map (carried columns ks j rows) (merged (kept_at ks j).column (chosen_row columns (kept_at ks j)))
    ∙ length-carried columns j ks rows

pub kept_more : (n m : ℕ) (ks : List KeptPivot) → AreKept n ks → n ≤ m → AreKept m ks
kept_more n m ks all le j h = let k = all j h in let l = k.long in record { long = omega arith; column = k.column; positive = k.positive }

-- the new rows, and what becomes of them
pub new_rows_are : (t : Tableau) (s : System) (first : ℕ) (rows : List TableauRow) → rows ≡ slack_rows s.unknowns (s.unknowns + first) (drop first s.rows)
    → first ≡ length t.rows → rows ≡ new_rows t s
new_rows_are t s first rows e f = e ∙ ap (λ (m : ℕ). slack_rows s.unknowns (s.unknowns + m) (drop m s.rows)) f

pub leaving_from : (t : Tableau) (s : System) (ks : List KeptPivot) (pivot at first : ℕ) (rows : List TableauRow) → rows ≡ new_rows t s → first ≡ length t.rows
    → pivot < length ks → StayInRange s.unknowns ks pivot rows →
    FirstRefused (kept_at ks pivot).column (chosen_row s.unknowns (kept_at ks pivot)) (carried s.unknowns ks pivot rows) at
    → FirstLeaving t ks s pivot (first + at)
leaving_from t s ks pivot at first rows e f h before refused = record {
  below = h;
  before = subst (StayInRange s.unknowns ks pivot) e before;
  new = at;
  number = ap (λ (m : ℕ). m + at) f;
  refused = subst (λ (xs : List TableauRow). FirstRefused (kept_at ks pivot).column (chosen_row s.unknowns (kept_at ks pivot)) (carried s.unknowns ks pivot xs)
      at) e refused;
}

pub proper_joined : (n : ℕ) (xs ys : List DenseRow) → AreProper n xs → AreProper n ys → AreProper n (xs ++ ys)
proper_joined n xs ys p q i h =
    let l = length-append xs ys in
    let l1 = length-map xs row_view in
    let l2 = length-map ys row_view in
    rw (map-append row_view xs ys)
    (elim (cases_lt i (length xs)) [
      | inl below ↦ rw (get_or_append_left (views xs) (views ys) no_row i (omega arith)) (p i below)
      | inr above ↦ rw (get_or-append_right (views xs) (views ys) (length xs) i no_row l1 above) (q (i - length xs) (omega arith))
    ])

-- the names of a longer dictionary are as many as its unknowns
pub names_long : (us nb : List ℕ) (u m : ℕ) → u ≤ m → u ≡ length us → nb ≡ map (raised u (m - u)) us ++ range_with_len u (m - u) → length nb ≡ m
names_long us nb u m few eu names = ap (λ (xs : List ℕ). length xs) names ∙ simp (length-append, length-map, length-range_with_len) (omega arith)
