-- Rows that are read from cells, and live cells that are counted
use Rattle.ta_links.proofs.Common.{◌≡◌, ◌≢◌, ℕ, zero, suc, ℤ, pos, negsuc, ◌+◌, ◌<◌, ◌≤◌, List, [], ◌∷◌, length, get_or, map, arith, sym, ap, ◌∙◌, refl, subst}
use Rattle.ta_links.proofs.Common.{Option, None, ints, range_with_len, coefficient, Row, TableauRow, no_row, row_of, cell_of, coefficients, slack_rows}
use Rattle.ta_links.proofs.Common.{slack_row_of, Cell, RowHead, cell_at, IsFree, FreeVisits, NotIn, value_in, row_values, fills, table_row, table_rows, no_head}
use Rattle.ta_links.proofs.Common.{live_count, AreProperHeads, IsProperHead, Linked, IsKeptInChains, linked_of, IsSoundLinks, Inside, slack_heads, none-some}
use Rattle.ta_links.proofs.Common.{get_or-map-range_with_len}

pub length-table_rows : (cells : List Cell) (n k : ℕ) (hs : List RowHead) → length (table_rows cells n k hs) ≡ length hs
length-table_rows cells n k [] = refl
length-table_rows cells n k (h ∷ hs) = let r = length-table_rows cells n (suc k) hs in omega arith

pub table_row_at : (cells : List Cell) (n k : ℕ) (hs : List RowHead) (i : ℕ) → i < length hs
    → get_or (table_rows cells n k hs) i no_row ≡ table_row cells n (k + i) (get_or hs i no_head)
table_row_at cells n k [] i h = absurd (omega arith)
table_row_at cells n k (x ∷ xs) zero h = ap (λ (r : ℕ). table_row cells n r x) (omega arith)
table_row_at cells n k (x ∷ xs) (suc i) h =
    table_row_at cells n (suc k) xs i (omega arith) ∙ ap (λ (r : ℕ). table_row cells n r (get_or xs i no_head)) (omega arith)

pub row_value_at : (cells : List Cell) (n row j : ℕ) → j < n → get_or (row_values cells n row) j (pos 0) ≡ value_in cells row j
row_value_at cells n row j h = get_or-map-range_with_len (value_in cells row) 0 n j j (pos 0) h (omega arith)

-- the number in a place of a table
pub table_cell : (cells : List Cell) (n : ℕ) (hs : List RowHead) (i j : ℕ) → i < length hs → j < n
    → cell_of (get_or (table_rows cells n 0 hs) i no_row) j ≡ value_in cells i j
table_cell cells n hs i j h b =
    ap (λ (r : TableauRow). cell_of r j) (table_row_at cells n 0 hs i h) ∙ row_value_at cells n (0 + i) j b ∙ ap (λ (r : ℕ). value_in cells r j) (omega arith)

pub values_are : (cells : List Cell) (n row : ℕ) (ts : List (ℕ × ℤ)) → ((c : ℕ) → value_in cells row c ≡ coefficient ts c)
    → row_values cells n row ≡ coefficients n ts
values_are cells n row ts same = go (range_with_len 0 n) where
  go : (xs : List ℕ) → map (value_in cells row) xs ≡ map (coefficient ts) xs
  go [] = refl
  go (x ∷ xs) = ap (λ (z : ℤ). z ∷ map (value_in cells row) xs) (same x) ∙ ap (λ (zs : List ℤ). coefficient ts x ∷ zs) (go xs)

-- the table of a system's rows
pub table_is : (cells : List Cell) (n v k : ℕ) (rs : List Row)
    → ((i c : ℕ) (d : Row) → i < length rs → value_in cells (k + i) c ≡ coefficient (get_or rs i d).form.terms c)
    → table_rows cells n k (slack_heads v rs) ≡ slack_rows n v rs
table_is cells n v k [] shows = refl
table_is cells n v k (r ∷ rs) shows =
    let first = values_are cells n k r.form.terms (λ c. ap (λ (q : ℕ). value_in cells q c) (omega arith) ∙ shows 0 c r (omega arith)) in
    let rest = table_is cells n (suc v) (suc k) rs (λ i c d h. ap (λ (q : ℕ). value_in cells q c) (omega arith) ∙ shows (suc i) c d (omega arith)) in
    ap (λ (zs : List ℤ). record { basic = v; denominator = pos 1; constant = r.form.constant; cells = zs } ∷ table_rows cells n (suc k)
    (slack_heads (suc v) rs)) first ∙ ap (λ (xs : List TableauRow). slack_row_of n v r ∷ xs) rest

one : (z : ℤ) → z ≢ pos 0 → fills (pos 0) z ≡ 1
one (pos zero) h = absurd (h refl)
one (pos (suc n)) h = refl
one (negsuc n) h = refl

fills_few : (z : ℤ) → fills (pos 0) z ≤ 1
fills_few (pos zero) = omega arith
fills_few (pos (suc n)) = omega arith
fills_few (negsuc n) = omega arith

-- each cell is live
pub all_live : (cells : List Cell) → ((i : ℕ) → i < length cells → (cell_at cells i).value ≢ pos 0) → live_count cells ≡ length cells
all_live [] h = refl
all_live (x ∷ xs) h =
    let first = one x.value (h 0 (omega arith)) in
    let rest = all_live xs (λ i b. h (suc i) (omega arith)) in
    omega arith

pub full_live : (cells : List Cell) (free : Option ℕ) → free ≡ None → IsFree cells free → live_count cells ≡ length cells
full_live cells free none f = go cells free none f.visited f.visits f.all where
  go : (cells : List Cell) (free : Option ℕ) → free ≡ None → (is : List ℕ) → FreeVisits cells free is
      → ((i : ℕ) → i < length cells → NotIn i is → (cell_at cells i).value ≢ pos 0) → live_count cells ≡ length cells
  go cells free none [] v all = all_live cells (λ i h. all i h tt)
  go cells free none (i ∷ is) v all = absurd (none-some i (sym none ∙ v.0))

pub live_few : (cells : List Cell) → live_count cells ≤ length cells
live_few [] = omega arith
live_few (x ∷ xs) = let a = live_few xs in let b = fills_few x.value in omega arith

pub proper_slacks : (v : ℕ) (rs : List Row) → AreProperHeads (slack_heads v rs)
proper_slacks v [] i h = absurd (omega arith)
proper_slacks v (r ∷ rs) zero h = record { positive = omega (arith, ints); denominator = omega arith; constant = r.form.constant_fits }
proper_slacks v (r ∷ rs) (suc i) h = proper_slacks (suc v) rs i (omega arith)

pub length-slack_heads : (v : ℕ) (rs : List Row) → length (slack_heads v rs) ≡ length rs
length-slack_heads v [] = refl
length-slack_heads v (r ∷ rs) = let a = length-slack_heads (suc v) rs in omega arith

-- what a dictionary keeps of its chains
pub kept_of : (d : Inside) → IsSoundLinks d → IsKeptInChains (linked_of d)
kept_of d s = record {
  linked = s.linked;
  rows = s.rows_long ∙ sym (length-table_rows d.links.cells.items (length d.non_basic.items) 0 d.rows.items);
  columns = s.columns_long;
  numbers = λ i j a b. table_cell d.links.cells.items (length d.non_basic.items) d.rows.items i j
      (let l = length-table_rows d.links.cells.items (length d.non_basic.items) 0 d.rows.items in omega arith) b;
}

-- a row, by its head
pub record HeadIs (inside : Inside) (d : Linked) (row : ℕ) (h : RowHead) : Type 0 where
  pub below : row < length inside.rows.items
  pub row_is : row_of d.tableau row ≡ table_row inside.links.cells.items (length inside.non_basic.items) (0 + row) h
  pub proper : IsProperHead h

pub row_below : (inside : Inside) (d : Linked) (row : ℕ) → linked_of inside ≡ d → row < length d.tableau.rows → row < length inside.rows.items
row_below inside d row view h =
    let rows = ap (λ (e : Linked). length e.tableau.rows) view in
    let l = length-table_rows inside.links.cells.items (length inside.non_basic.items) 0 inside.rows.items in
    omega arith

pub head_below : (inside : Inside) (d : Linked) (row : ℕ) (heads : List RowHead) → linked_of inside ≡ d → row < length d.tableau.rows
    → heads ≡ inside.rows.items → row < length heads
head_below inside d row heads view h same = subst (λ (hs : List RowHead). row < length hs) (sym same) (row_below inside d row view h)

pub head_is : (inside : Inside) (d : Linked) (row : ℕ) (h : RowHead) → IsSoundLinks inside → linked_of inside ≡ d → row < length d.tableau.rows
    → h ≡ get_or inside.rows.items row no_head → HeadIs inside d row h
head_is inside d row h s view b is =
    let below = row_below inside d row view b in
    record {
      below = below;
      row_is = ap (λ (e : Linked). row_of e.tableau row) (sym view)
          ∙ table_row_at inside.links.cells.items (length inside.non_basic.items) 0 inside.rows.items row below
          ∙ ap (table_row inside.links.cells.items (length inside.non_basic.items) (0 + row)) (sym is);
      proper = subst IsProperHead (sym is) (s.proper row below);
    }

pub number_is : (inside : Inside) (d : Linked) (row column : ℕ) → linked_of inside ≡ d → row < length d.tableau.rows → column < length d.tableau.non_basic
    → value_in inside.links.cells.items row column ≡ cell_of (row_of d.tableau row) column
number_is inside d row column view r c =
    let columns = ap (λ (e : Linked). length e.tableau.non_basic) view in
    sym (table_cell inside.links.cells.items (length inside.non_basic.items) inside.rows.items row column (row_below inside d row view r) (omega arith))
    ∙ ap (λ (e : Linked). cell_of (row_of e.tableau row) column) view
