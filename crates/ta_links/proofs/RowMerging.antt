-- A row that was merged place by place is the row of the definition
use Rattle.ta_links.proofs.Common.{◌≡◌, ◌≢◌, inl, inr, ℕ, zero, suc, ℤ, pos, ◌+◌, ◌*ℤ◌, ◌-ℤ◌, ◌<ℤ◌, ◌<◌, ◌≤◌, List, [], ◌∷◌, ◌++◌, length, map, set, get_or}
use Rattle.ta_links.proofs.Common.{arith, sym, ap, ◌∙◌, refl, subst, Option, unsigned_abs, int_div, range_with_len, ext_get_or, length-set, length-map}
use Rattle.ta_links.proofs.Common.{get_or-map, get_or-set_same, get_or-set_other, map-append, product_positive, range_more, gcd_of, InRange, combine, gcd_with}
use Rattle.ta_links.proofs.Common.{cell_of, merged, merged_by, divisor_of, divided, reduced, factor_divisor, CombinesInRange, MergesByInRange, MergesInRange}
use Rattle.ta_links.proofs.Common.{IsProper, record_same, Factored, factored, merged_from, IsProper-merged, divisor_positive, AreLinked, Cell, RowHead}
use Rattle.ta_links.proofs.Common.{value_in, row_values, filled_places, table_row, IsProperHead, AreProperHeads, no_head, merged_cell, MergesAt, RefusedAt}
use Rattle.ta_links.proofs.Common.{gcd_below, HeadsMerge, MergedHead, RowMerged, LinkedCells, AreSound, cases_eq, length-map-range_with_len}
use Rattle.ta_links.proofs.Common.{get_or-map-range_with_len}
use Rattle.ta_dense.proofs.PivotLaws.{get_or-combine, length-combine}
use Rattle.std.proofs.lemmas.List.Elements.{All-map}
use Rattle.ta_links.proofs.Cells.{look, value_found, value_none}
use Rattle.ta_links.proofs.LinkedFacts.{row_value_at}
use Rattle.ta_links.proofs.MergeSteps.{merged_here, merged_elsewhere}

pub numbers_long : (cells : List Cell) (n row : ℕ) → length (row_values cells n row) ≡ n
numbers_long cells n row = length-map-range_with_len (value_in cells row) 0 n

-- the cells of the merged row
pub merged_list : (p q : ℤ) (column : ℕ) (turned : ℤ) (cells : List Cell) (n row at : ℕ) → column < n →
    set (combine p q (row_values cells n at) (row_values cells n row)) column turned ≡ map
    (merged_cell p q column turned (value_in cells at) (value_in cells row)) (range_with_len 0 n)
merged_list p q column turned cells n row at inside =
    let xs = row_values cells n at in
    let cs = row_values cells n row in
    let lx = numbers_long cells n at in
    let lc = numbers_long cells n row in
    let both = combine p q xs cs in
    let lb = length-combine p q xs cs (lx ∙ sym lc) in
    let ls = length-set both column turned in
    let F = merged_cell p q column turned (value_in cells at) (value_in cells row) in
    let lm = length-map-range_with_len F 0 n in
    ext_get_or (pos 0) (set both column turned) (map F (range_with_len 0 n)) (omega arith) (λ j b.
    let below : j < n = omega arith in
    let right : get_or (map F (range_with_len 0 n)) j (pos 0) ≡ F j = get_or-map-range_with_len F 0 n j j (pos 0) below (omega arith) in
    elim (cases_eq j column) [
      | inl e ↦ ap (λ (k : ℕ). get_or (set both column turned) k (pos 0)) e ∙ get_or-set_same both column turned (pos 0) (omega arith)
          ∙ sym (merged_here p q column turned (value_in cells at) (value_in cells row) j e) ∙ sym right
      | inr ne ↦
          get_or-set_other both column j turned (pos 0) ne ∙ get_or-combine p q xs cs j (lx ∙ sym lc)
          ∙ ap (λ (z : ℤ). p *ℤ z -ℤ q *ℤ get_or cs j (pos 0)) (row_value_at cells n at j below)
          ∙ ap (λ (z : ℤ). p *ℤ value_in cells at j -ℤ q *ℤ z) (row_value_at cells n row j below)
          ∙ sym (merged_elsewhere p q column turned (value_in cells at) (value_in cells row) j ne) ∙ sym right
    ])

gcd_with-push : (g : ℕ) (xs : List ℤ) (y : ℤ) → gcd_with g (xs ++ y ∷ []) ≡ gcd_of (gcd_with g xs) (unsigned_abs y)
gcd_with-push g [] y = refl
gcd_with-push g (x ∷ xs) y = gcd_with-push (gcd_of g (unsigned_abs x)) xs y

pub gcd_with-below : (g : ℕ) (f : ℕ → ℤ) (n : ℕ) → gcd_with g (map f (range_with_len 0 n)) ≡ gcd_below g f n
gcd_with-below g f zero = refl
gcd_with-below g f (suc n) =
    let z : 0 + n ≡ n = omega arith in
    ap (λ (xs : List ℕ). gcd_with g (map f xs)) (range_more 0 n) ∙ ap (gcd_with g) (map-append f (range_with_len 0 n) ((0 + n) ∷ []))
    ∙ gcd_with-push g (map f (range_with_len 0 n)) (f (0 + n)) ∙ ap (λ (k : ℕ). gcd_of (gcd_with g (map f (range_with_len 0 n))) (unsigned_abs (f k))) z
    ∙ ap (λ (k : ℕ). gcd_of k (unsigned_abs (f n))) (gcd_with-below g f n)

-- what the code computes, and what it writes
pub record RowWritten (cells new : List Cell) (n row at column : ℕ) (p q : ℤ) (head chosen : RowHead) (g : ℕ) : Type 0 where
  pub inside : column < n
  pub divisor : g ≡ gcd_below (gcd_of (unsigned_abs (p *ℤ head.denominator)) (unsigned_abs (p *ℤ head.constant -ℤ q *ℤ chosen.constant)))
      (merged_cell p q column (q *ℤ chosen.denominator) (value_in cells at) (value_in cells row)) n
  pub values : (j : ℕ) → j < n → value_in new at j ≡ int_div (merged_cell p q column (q *ℤ chosen.denominator) (value_in cells at) (value_in cells row) j)
      (pos g)

abbrev pub new_head : ℤ → ℤ → RowHead → RowHead → ℕ → RowHead
new_head p q head chosen g = record
    { basic = head.basic; denominator = int_div (p *ℤ head.denominator) (pos g); constant = int_div (p *ℤ head.constant -ℤ q *ℤ chosen.constant) (pos g) }

-- the divisor of the merged row
divisor_is : (cells : List Cell) (n row at column : ℕ) (p q : ℤ) (head chosen : RowHead) (g : ℕ) → column < n →
    g ≡ gcd_below (gcd_of (unsigned_abs (p *ℤ head.denominator)) (unsigned_abs (p *ℤ head.constant -ℤ q *ℤ chosen.constant)))
    (merged_cell p q column (q *ℤ chosen.denominator) (value_in cells at) (value_in cells row)) n →
    divisor_of (merged_by p q column (table_row cells n row chosen) (table_row cells n at head)) ≡ g
divisor_is cells n row at column p q head chosen g inside e =
    let turned = q *ℤ chosen.denominator in
    let G = gcd_of (unsigned_abs (p *ℤ head.denominator)) (unsigned_abs (p *ℤ head.constant -ℤ q *ℤ chosen.constant)) in
    ap (gcd_with G) (merged_list p q column turned cells n row at inside)
    ∙ gcd_with-below G (merged_cell p q column turned (value_in cells at) (value_in cells row)) n ∙ sym e

pub written_row : (cells new : List Cell) (n row at column : ℕ) (p q : ℤ) (head chosen : RowHead) (g : ℕ)
    → RowWritten cells new n row at column p q head chosen g →
    table_row new n at (new_head p q head chosen g) ≡ reduced (merged_by p q column (table_row cells n row chosen) (table_row cells n at head))
written_row cells new n row at column p q head chosen g w =
    let turned = q *ℤ chosen.denominator in
    let F = merged_cell p q column turned (value_in cells at) (value_in cells row) in
    let m = merged_by p q column (table_row cells n row chosen) (table_row cells n at head) in
    let list = merged_list p q column turned cells n row at w.inside in
    let d = divisor_is cells n row at column p q head chosen g w.inside w.divisor in
    let lm = length-map-range_with_len F 0 n in
    let ln = numbers_long new n at in
    let lq = length-map (map F (range_with_len 0 n)) (λ (z : ℤ). int_div z (pos g)) in
    let cells_ : row_values new n at ≡ map (λ (z : ℤ). int_div z (pos g)) (map F (range_with_len 0 n)) =
    ext_get_or (pos 0) (row_values new n at) (map (λ (z : ℤ). int_div z (pos g)) (map F (range_with_len 0 n))) (omega arith) (λ j b.
    let below : j < n = omega arith in
    let one : get_or (map F (range_with_len 0 n)) j (pos 0) ≡ F j = get_or-map-range_with_len F 0 n j j (pos 0) below (omega arith) in
    row_value_at new n at j below ∙ w.values j below ∙ ap (λ (z : ℤ). int_div z (pos g)) (sym one)
    ∙ sym (get_or-map (λ (z : ℤ). int_div z (pos g)) (map F (range_with_len 0 n)) j (pos 0) (pos 0) (omega arith))) in
    let same : table_row new n at (new_head p q head chosen g) ≡ divided g m = record_same (table_row new n at (new_head p q head chosen g)) (divided g m) refl
    refl refl (cells_ ∙ ap (map (λ (z : ℤ). int_div z (pos g))) (sym list)) in
    same ∙ ap (λ (k : ℕ). divided k m) (sym d)

-- the products and differences are those of the definition
pub within_by : (cells : List Cell) (n row at column : ℕ) (p q : ℤ) (head chosen : RowHead) → HeadsMerge p q head chosen
    → ((j : ℕ) → j < n → MergesAt p q column (value_in cells at) (value_in cells row) j) →
    MergesByInRange p q column (table_row cells n row chosen) (table_row cells n at head)
within_by cells n row at column p q head chosen h all = record {
  denominator = h.denominator;
  constant = h.constant;
  turned = h.turned;
  cells = λ j b ne.
      let long = numbers_long cells n at in
      let below : j < n = omega arith in
      subst (λ (z : ℤ). CombinesInRange p z q (get_or (row_values cells n row) j (pos 0))) (sym (row_value_at cells n at j below))
      (subst (λ (z : ℤ). CombinesInRange p (value_in cells at j) q z) (sym (row_value_at cells n row j below)) (all j below ne));
}

pub by_heads : (cells : List Cell) (n row at column : ℕ) (p q : ℤ) (head chosen : RowHead)
    → MergesByInRange p q column (table_row cells n row chosen) (table_row cells n at head) → HeadsMerge p q head chosen
by_heads cells n row at column p q head chosen m = record { denominator = m.denominator; constant = m.constant; turned = m.turned }

pub by_cells : (cells : List Cell) (n row at column : ℕ) (p q : ℤ) (head chosen : RowHead)
    → MergesByInRange p q column (table_row cells n row chosen) (table_row cells n at head) → (j : ℕ) → j < n
    → MergesAt p q column (value_in cells at) (value_in cells row) j
by_cells cells n row at column p q head chosen m j b ne =
    let long = numbers_long cells n at in
    let c = m.cells j (omega arith) ne in
    subst (λ (z : ℤ). CombinesInRange p z q (value_in cells row j)) (row_value_at cells n at j b)
    (subst (λ (z : ℤ). CombinesInRange p (get_or (row_values cells n at) j (pos 0)) q z) (row_value_at cells n row j b) c)

-- a merge as it is begun: the two cells and the two factors
pub record Begun (cells : List Cell) (n row at column : ℕ) (p q c a : ℤ) : Type 0 where
  pub inside : column < n
  pub a_is : a ≡ value_in cells at column
  pub c_is : c ≡ value_in cells row column
  pub apart : value_in cells at column ≢ pos 0
  pub first : p ≡ int_div c (pos (factor_divisor c a))
  pub second : q ≡ int_div a (pos (factor_divisor c a))
  pub positive : pos 0 <ℤ p

begun_factored : (cells : List Cell) (n row at column : ℕ) (p q c a : ℤ) (head chosen : RowHead) → Begun cells n row at column p q c a
    → Factored column (table_row cells n row chosen) (table_row cells n at head) p q
begun_factored cells n row at column p q c a head chosen b =
    factored column (table_row cells n row chosen) (table_row cells n at head) a c p q (b.a_is ∙ sym (row_value_at cells n at column b.inside))
    (b.c_is ∙ sym (row_value_at cells n row column b.inside)) (λ z. b.apart (sym b.a_is ∙ z)) b.first b.second

pub refused_heads : (cells : List Cell) (n row at column : ℕ) (p q c a : ℤ) (head chosen : RowHead) → Begun cells n row at column p q c a
    → ¬ (HeadsMerge p q head chosen) → ¬ (MergesInRange column (table_row cells n row chosen) (table_row cells n at head))
refused_heads cells n row at column p q c a head chosen b h all =
    let f = begun_factored cells n row at column p q c a head chosen b in
    h (by_heads cells n row at column p q head chosen (rw (f.first, f.second) (all f.apart)))

pub refused_cells : (cells : List Cell) (n row at column : ℕ) (p q c a : ℤ) (head chosen : RowHead) → Begun cells n row at column p q c a
    → RefusedAt p q column (value_in cells at) (value_in cells row) n → ¬ (MergesInRange column (table_row cells n row chosen) (table_row cells n at head))
refused_cells cells n row at column p q c a head chosen b r all =
    let f = begun_factored cells n row at column p q c a head chosen b in
    let m : MergesByInRange p q column (table_row cells n row chosen) (table_row cells n at head) = rw (f.first, f.second) (all f.apart) in
    r.refused (by_cells cells n row at column p q head chosen m r.place r.inside)

pub merge_within : (cells : List Cell) (n row at column : ℕ) (p q c a : ℤ) (head chosen : RowHead) → Begun cells n row at column p q c a
    → MergesByInRange p q column (table_row cells n row chosen) (table_row cells n at head)
    → MergesInRange column (table_row cells n row chosen) (table_row cells n at head)
merge_within cells n row at column p q c a head chosen b m =
    let f = begun_factored cells n row at column p q c a head chosen b in
    λ apart. rw (← f.first, ← f.second) m

pub merge_is : (cells new : List Cell) (n row at column : ℕ) (p q c a : ℤ) (head chosen : RowHead) (g : ℕ) → Begun cells n row at column p q c a
    → RowWritten cells new n row at column p q head chosen g →
    table_row new n at (new_head p q head chosen g) ≡ merged column (table_row cells n row chosen) (table_row cells n at head)
merge_is cells new n row at column p q c a head chosen g b w =
    written_row cells new n row at column p q head chosen g w
    ∙ merged_from column (table_row cells n row chosen) (table_row cells n at head) p q (begun_factored cells n row at column p q c a head chosen b)

-- the divisor is the merged row's, and it is positive
pub divisor_above : (cells : List Cell) (n row at column : ℕ) (p q : ℤ) (head chosen : RowHead) (g : ℕ) → column < n → pos 0 <ℤ p → pos 0 <ℤ head.denominator →
    g ≡ gcd_below (gcd_of (unsigned_abs (p *ℤ head.denominator)) (unsigned_abs (p *ℤ head.constant -ℤ q *ℤ chosen.constant)))
    (merged_cell p q column (q *ℤ chosen.denominator) (value_in cells at) (value_in cells row)) n → 0 < g
divisor_above cells n row at column p q head chosen g inside positive den e =
    let d = divisor_is cells n row at column p q head chosen g inside e in
    let above = divisor_positive (merged_by p q column (table_row cells n row chosen) (table_row cells n at head))
    (product_positive p head.denominator positive den) in
    omega arith

-- numbers of linked cells are in range
pub value_fits : (cells : List Cell) (row_heads column_heads : List (Option ℕ)) (free : Option ℕ) (r c : ℕ) → AreLinked cells row_heads column_heads free
    → InRange (value_in cells r c)
value_fits cells row_heads column_heads free r c l = elim (look cells r c) [
  | inl i ↦ subst InRange (sym (value_found cells i.0 r c i.1 i.2 i.3 (λ k live e f. l.one k i.0 live i.1 (e ∙ sym i.2) (f ∙ sym i.3)))) (l.fits i.0 i.1)
  | inr none ↦ let z = value_none cells r c none in subst InRange (sym z) (omega arith)
]

pub table_proper : (cells : List Cell) (row_heads column_heads : List (Option ℕ)) (free : Option ℕ) (n r : ℕ) (h : RowHead)
    → AreLinked cells row_heads column_heads free → IsProperHead h → IsProper n (table_row cells n r h)
table_proper cells row_heads column_heads free n r h l p = record {
  positive = p.positive;
  denominator = p.denominator;
  constant = p.constant;
  cells = All-map InRange (value_in cells r) (range_with_len 0 n) (λ k d b. value_fits cells row_heads column_heads free r (get_or (range_with_len 0 n) k d) l);
  long = numbers_long cells n r;
}

-- the merged head is a proper one
pub head_proper : (cells new : List Cell) (row_heads column_heads : List (Option ℕ)) (free : Option ℕ) (n row at column : ℕ) (p q c a : ℤ)
    (head chosen : RowHead) (g : ℕ) → AreLinked cells row_heads column_heads free → IsProperHead head → IsProperHead chosen →
    Begun cells n row at column p q c a → pos 0 <ℤ value_in cells row column → RowWritten cells new n row at column p q head chosen g
    → MergesByInRange p q column (table_row cells n row chosen) (table_row cells n at head) → IsProperHead (new_head p q head chosen g)
head_proper cells new row_heads column_heads free n row at column p q c a head chosen g l hp cp b above w m =
    let T = table_row cells n row chosen in
    let R = table_row cells n at head in
    let cell : pos 0 <ℤ cell_of T column = subst (λ (z : ℤ). pos 0 <ℤ z) (sym (row_value_at cells n row column b.inside)) above in
    let k = IsProper-merged n column T R b.inside cell (table_proper cells row_heads column_heads free n row chosen l cp)
    (table_proper cells row_heads column_heads free n at head l hp) (merge_within cells n row at column p q c a head chosen b m) in
    let s = subst (IsProper n) (sym (merge_is cells new n row at column p q c a head chosen g b w)) k in
    record { positive = s.positive; denominator = s.denominator; constant = s.constant }

-- the divisor that the code finds
pub divisor_from : (n column : ℕ) (p q : ℤ) (f g : ℕ → ℤ) (head chosen : RowHead) (d k t : ℤ) (x y first common : ℕ) → MergedHead p q head chosen (d, k, t)
    → x ≡ unsigned_abs d → y ≡ unsigned_abs k → first ≡ gcd_of x y →
    common ≡ gcd_below first (merged_cell p q column t f g) n →
    common ≡ gcd_below (gcd_of (unsigned_abs (p *ℤ head.denominator)) (unsigned_abs (p *ℤ head.constant -ℤ q *ℤ chosen.constant)))
    (merged_cell p q column (q *ℤ chosen.denominator) f g) n
divisor_from n column p q f g head chosen d k t x y first common m ex ey ef ec =
    let a = ex ∙ ap unsigned_abs m.denominator in
    let b = ey ∙ ap unsigned_abs m.constant in
    let start = ef ∙ ap (λ (i : ℕ). gcd_of i y) a ∙ ap (gcd_of (unsigned_abs (p *ℤ head.denominator))) b in
    ec ∙ ap (λ (i : ℕ). gcd_below i (merged_cell p q column t f g) n) start
    ∙ ap (λ (z : ℤ). gcd_below (gcd_of (unsigned_abs (p *ℤ head.denominator)) (unsigned_abs (p *ℤ head.constant -ℤ q *ℤ chosen.constant)))
    (merged_cell p q column z f g) n) m.turned

-- what the calls of a merge come to
pub row_done : (columns row at column : ℕ) (hs hs' : List RowHead) (old new : LinkedCells) (p q c a : ℤ) (head chosen nh : RowHead) (g : ℕ) → AreSound old
    → AreProperHeads hs → row < length hs → at < length hs →
    chosen ≡ get_or hs row no_head → head ≡ get_or hs at no_head → Begun old.cells.items columns row at column p q c a
    → pos 0 <ℤ value_in old.cells.items row column → HeadsMerge p q head chosen →
    ((j : ℕ) → j < columns → MergesAt p q column (value_in old.cells.items at) (value_in old.cells.items row) j)
    → RowWritten old.cells.items new.cells.items columns row at column p q head chosen g →
    hs' ≡ set hs at nh → nh ≡ new_head p q head chosen g → AreSound new → length new.row_heads.items ≡ length old.row_heads.items
    → length new.column_heads.items ≡ length old.column_heads.items →
    ((r c : ℕ) → r ≢ at → value_in new.cells.items r c ≡ value_in old.cells.items r c)
    → length new.cells.items ≤ length old.cells.items + filled_places columns (value_in old.cells.items at) (value_in new.cells.items at) →
    RowMerged columns row at column hs old hs' new
row_done columns row at column hs hs' old new p q c a head chosen nh g sound proper inside_row inside_at ec eh b above hm all w set_ is sound' rl cl others held
    =
    let cells = old.cells.items in
    let m = within_by cells columns row at column p q head chosen hm all in
    let here : get_or hs' at no_head ≡ new_head p q head chosen g = ap (λ (xs : List RowHead). get_or xs at no_head) set_
    ∙ get_or-set_same hs at nh no_head inside_at ∙ is in
    let elsewhere : (i : ℕ) → i ≢ at → get_or hs' i no_head ≡ get_or hs i no_head = λ i ne. ap (λ (xs : List RowHead). get_or xs i no_head) set_
    ∙ get_or-set_other hs at i nh no_head ne in
    let long = ap (λ (xs : List RowHead). length xs) set_ ∙ length-set hs at nh in
    let hp : IsProperHead head = subst IsProperHead (sym eh) (proper at inside_at) in
    let cp : IsProperHead chosen = subst IsProperHead (sym ec) (proper row inside_row) in
    let np = head_proper cells new.cells.items old.row_heads.items old.column_heads.items old.free_head columns row at column p q c a head chosen g sound hp cp
    b above w m in
    record {
      sound = sound';
      row_heads = rl;
      column_heads = cl;
      long = long;
      proper = λ i below. elim (cases_eq i at) [
        | inl e ↦ subst IsProperHead (sym (ap (λ (k : ℕ). get_or hs' k no_head) e ∙ here)) np
        | inr ne ↦ subst IsProperHead (sym (elsewhere i ne)) (proper i (omega arith))
      ];
      others = others;
      other_heads = elsewhere;
      row_merged = ap (table_row new.cells.items columns at) here ∙ merge_is cells new.cells.items columns row at column p q c a head chosen g b w
          ∙ ap (λ (h : RowHead). merged column (table_row cells columns row h) (table_row cells columns at head)) ec
          ∙ ap (λ (h : RowHead). merged column (table_row cells columns row (get_or hs row no_head)) (table_row cells columns at h)) eh;
      within = subst (λ (h : RowHead). MergesInRange column (table_row cells columns row h) (table_row cells columns at (get_or hs at no_head))) ec
          (subst (λ (h : RowHead). MergesInRange column (table_row cells columns row chosen) (table_row cells columns at h)) eh
          (merge_within cells columns row at column p q c a head chosen b m));
      held = held;
    }
