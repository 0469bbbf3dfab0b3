-- The dictionary after a pivot
use Rattle.ta_links.proofs.Common.{◌≡◌, ◌≢◌, inl, inr, ℕ, zero, suc, ℤ, ◌+◌, ◌<◌, ◌≤◌, List, length, map, set, get_or, arith, sym, ap, ◌∙◌, refl, subst}
use Rattle.ta_links.proofs.Common.{ext_get_or, length-set, length-map, get_or-map, get_or-set_same, get_or-set_other, Tableau, TableauRow, merged, turned}
use Rattle.ta_links.proofs.Common.{no_row, pivoted, pivoted_rows, MergesInRange, OthersMergeBelow, FirstOtherRefused, RowHead, LinkedCells, value_in, fills}
use Rattle.ta_links.proofs.Common.{filled_places, filled_rows, table_row, table_rows, no_head, numbers_of, Cell, row_in, IsSpared, MergedBelow, RowTurned}
use Rattle.ta_links.proofs.Common.{RefusedFirst, cases_eq}
use Rattle.ta_links.specs.Pivoting.{RowsPivoted}
use Rattle.ta_links.proofs.LinkedFacts.{length-table_rows, table_row_at, table_cell}
use Rattle.ta_links.proofs.ColumnSteps.{filled_same}
use Rattle.ta_links.proofs.AllMerging.{row_same_in, unreached, filled_none, filled_rows_same, filled_from}

-- a row of the table
pub table_at : (hs : List RowHead) (l : LinkedCells) (n i : ℕ) → i < length hs → get_or (table_rows l.cells.items n 0 hs) i no_row ≡ row_in hs l n i
table_at hs l n i b = table_row_at l.cells.items n 0 hs i b ∙ ap (λ (r : ℕ). table_row l.cells.items n r (get_or hs i no_head)) (omega arith)

not_spared : (row i : ℕ) → i ≢ row → ¬ (IsSpared 0 row i)
not_spared row i ne s = elim s [ inl b ↦ omega arith | inr e ↦ ne e ]

-- the rows are those of the definition
pub pivoted_is : (n row column entering : ℕ) (hs hs1 hs2 : List RowHead) (l l1 l2 : LinkedCells) → row < length hs
    → MergedBelow 0 n row column hs l (length hs) hs1 l1 → RowTurned n row column entering hs1 l1 hs2 l2 →
    table_rows l2.cells.items n 0 hs2 ≡ pivoted_rows (table_rows l.cells.items n 0 hs) row column entering
pivoted_is n row column entering hs hs1 hs2 l l1 l2 inside m t =
    let old = table_rows l.cells.items n 0 hs in
    let new = table_rows l2.cells.items n 0 hs2 in
    let chosen = get_or old row no_row in
    let chosen_is = table_at hs l n row inside in
    let lo = length-table_rows l.cells.items n 0 hs in
    let ln = length-table_rows l2.cells.items n 0 hs2 in
    let lm = length-map old (merged column chosen) in
    let ls = length-set (map (merged column chosen) old) row (turned entering column chosen) in
    ext_get_or no_row new (set (map (merged column chosen) old) row (turned entering column chosen)) (omega arith) (λ i b.
    let below : i < length hs = omega arith in
    let mine = table_at hs2 l2 n i (omega arith) in
    elim (cases_eq i row) [
      | inl e ↦
          mine ∙ ap (λ (k : ℕ). row_in hs2 l2 n k) e ∙ t.row_turned
          ∙ ap (turned entering column) (unreached 0 n row column hs l (length hs) hs1 l1 m row (inr (inr refl)))
          ∙ ap (turned entering column) (sym chosen_is)
          ∙ sym (ap (λ (k : ℕ). get_or (set (map (merged column chosen) old) row (turned entering column chosen)) k no_row) e
          ∙ get_or-set_same (map (merged column chosen) old) row (turned entering column chosen) no_row (omega arith))
      | inr ne ↦
          mine ∙ row_same_in hs1 hs2 l1 l2 n i (λ c. t.others i c ne) (t.other_heads i ne) ∙ m.done i below (not_spared row i ne)
          ∙ ap (λ (r : TableauRow). merged column r (row_in hs l n i)) (sym chosen_is) ∙ ap (merged column chosen) (sym (table_at hs l n i below))
          ∙ sym (get_or-set_other (map (merged column chosen) old) row i (turned entering column chosen) no_row ne
          ∙ get_or-map (merged column chosen) old i no_row no_row (omega arith))
    ])

pub others_merge : (n row column k : ℕ) (hs : List RowHead) (l : LinkedCells) → row < length hs
    → ((i : ℕ) → i < k → ¬ (IsSpared 0 row i) → MergesInRange column (row_in hs l n row) (row_in hs l n i)) →
    OthersMergeBelow row column (get_or (table_rows l.cells.items n 0 hs) row no_row) (table_rows l.cells.items n 0 hs) k
others_merge n row column k hs l inside all i b below ne =
    let lo = length-table_rows l.cells.items n 0 hs in
    subst (λ (r : TableauRow). MergesInRange column r (get_or (table_rows l.cells.items n 0 hs) i no_row)) (sym (table_at hs l n row inside))
    (subst (λ (r : TableauRow). MergesInRange column (row_in hs l n row) r) (sym (table_at hs l n i (omega arith))) (all i b (not_spared row i ne)))

pub first_refused : (n row column k : ℕ) (hs : List RowHead) (l : LinkedCells) → row < length hs → RefusedFirst 0 n row column hs l (length hs) k
    → FirstOtherRefused row column (get_or (table_rows l.cells.items n 0 hs) row no_row) (table_rows l.cells.items n 0 hs) k
first_refused n row column k hs l inside r =
    let lo = length-table_rows l.cells.items n 0 hs in
    let below = r.inside in
    record {
      below = omega arith;
      apart = λ e. r.refused.apart (inr e);
      refused = subst (λ (t : TableauRow). ¬ (MergesInRange column t (get_or (table_rows l.cells.items n 0 hs) k no_row))) (sym (table_at hs l n row inside))
          (subst (λ (t : TableauRow). ¬ (MergesInRange column (row_in hs l n row) t)) (sym (table_at hs l n k below)) r.refused.refused);
      first = others_merge n row column k hs l inside r.before;
    }

-- one row of a table is written that was as before
filled_rows_step : (m n : ℕ) (f g h : ℕ → ℕ → ℤ) (row : ℕ) → row < m → ((j : ℕ) → g row j ≡ f row j) → ((i j : ℕ) → i ≢ row → h i j ≡ g i j)
    → filled_rows m n f h ≡ filled_rows m n f g + filled_places n (f row) (h row)
filled_rows_step zero n f g h row inside here rest = absurd (omega arith)
filled_rows_step (suc m) n f g h row inside here rest = elim (cases_eq row m) [
  | inl e ↦
      let below = filled_rows_same m n f g h (λ i j b. rest i j (omega arith)) in
      let old : filled_places n (f m) (g m) ≡ 0 = filled_none n (f m) (g m) (λ j. ap (λ (k : ℕ). g k j) (sym e) ∙ here j ∙ ap (λ (k : ℕ). f k j) e) in
      let new : filled_places n (f m) (h m) ≡ filled_places n (f row) (h row) = ap (λ (k : ℕ). filled_places n (f k) (h k)) (sym e) in
      omega arith
  | inr ne ↦
      let below = filled_rows_step m n f g h row (omega arith) here rest in
      let last = filled_same n (f m) (g m) (h m) (λ j b. rest m j (λ e. ne (sym e))) in
      omega arith
]

filled_below : (n : ℕ) (f g f' g' : ℕ → ℤ) → ((j : ℕ) → j < n → f j ≡ f' j) → ((j : ℕ) → j < n → g j ≡ g' j) → filled_places n f g ≡ filled_places n f' g'
filled_below zero f g f' g' e h = refl
filled_below (suc n) f g f' g' e h =
    let rest = filled_below n f g f' g' (λ j b. e j (omega arith)) (λ j b. h j (omega arith)) in
    let last = ap (λ (z : ℤ). fills z (g n)) (e n (omega arith)) ∙ ap (fills (f' n)) (h n (omega arith)) in
    omega arith

pub filled_rows_below : (m n : ℕ) (f g f' g' : ℕ → ℕ → ℤ) → ((i j : ℕ) → i < m → j < n → f i j ≡ f' i j) → ((i j : ℕ) → i < m → j < n → g i j ≡ g' i j)
    → filled_rows m n f g ≡ filled_rows m n f' g'
filled_rows_below zero n f g f' g' e h = refl
filled_rows_below (suc m) n f g f' g' e h =
    let rest = filled_rows_below m n f g f' g' (λ i j b c. e i j (omega arith) c) (λ i j b c. h i j (omega arith) c) in
    let last = filled_below n (f m) (g m) (f' m) (g' m) (λ j c. e m j (omega arith) c) (λ j c. h m j (omega arith) c) in
    omega arith

pub held_after : (n row column entering : ℕ) (hs hs1 hs2 : List RowHead) (l l1 l2 : LinkedCells) → row < length hs
    → MergedBelow 0 n row column hs l (length hs) hs1 l1 → RowTurned n row column entering hs1 l1 hs2 l2 →
    length l2.cells.items ≤ length l.cells.items + filled_rows (length hs) n (value_in l.cells.items) (value_in l2.cells.items)
held_after n row column entering hs hs1 hs2 l l1 l2 inside m t =
    let same : (j : ℕ) → value_in l1.cells.items row j ≡ value_in l.cells.items row j = λ j. m.rest row j (inr (inr refl)) in
    let step = filled_rows_step (length hs) n (value_in l.cells.items) (value_in l1.cells.items) (value_in l2.cells.items) row inside same
    (λ i j ne. t.others i j ne) in
    let from = filled_from n (value_in l1.cells.items row) (value_in l.cells.items row) (value_in l2.cells.items row) same in
    omega arith

-- what the calls of a pivot come to
pub pivot_done : (n row column entering : ℕ) (hs hs1 hs2 : List RowHead) (l l1 l2 : LinkedCells) → row < length hs
    → MergedBelow 0 n row column hs l (length hs) hs1 l1 → RowTurned n row column entering hs1 l1 hs2 l2 →
    RowsPivoted n row column entering hs l hs2 l2
pivot_done n row column entering hs hs1 hs2 l l1 l2 inside m t =
    let long = length-table_rows l.cells.items n 0 hs in
    record {
      sound = t.sound;
      row_heads = t.row_heads ∙ m.row_heads;
      column_heads = t.column_heads ∙ m.column_heads;
      long = t.long ∙ m.long;
      proper = t.proper;
      rows_are = pivoted_is n row column entering hs hs1 hs2 l l1 l2 inside m t;
      within = others_merge n row column (length (table_rows l.cells.items n 0 hs)) hs l inside (λ i b. m.within i (omega arith));
      held = held_after n row column entering hs hs1 hs2 l l1 l2 inside m t;
    }

-- the tableau is that of the definition
pub pivoted_tableau : (us : List ℕ) (hs hs' : List RowHead) (l l' : LinkedCells) (n row column leaving entering : ℕ) (t : Tableau)
    → record { non_basic = us; rows = table_rows l.cells.items (length us) 0 hs } ≡ t → row < length hs → n ≡ length us
    → leaving ≡ (get_or hs row no_head).basic → entering ≡ get_or us column 0 →
    RowsPivoted n row column entering hs l hs' l' → record
    { non_basic = set us column leaving; rows = table_rows l'.cells.items (length (set us column leaving)) 0 hs' } ≡ pivoted t row column
pivoted_tableau us hs hs' l l' n row column leaving entering t view inside en eb ee d =
    let before = table_rows l.cells.items (length us) 0 hs in
    let after = pivoted_rows before row column (get_or us column 0) in
    let long = length-set us column leaving in
    let basic : leaving ≡ (get_or before row no_row).basic = eb ∙ sym (ap (λ (r : TableauRow). r.basic) (table_at hs l (length us) row inside)) in
    let rows_ : table_rows l'.cells.items (length (set us column leaving)) 0 hs' ≡ after =
    ap (λ (k : ℕ). table_rows l'.cells.items k 0 hs') (long ∙ sym en) ∙ d.rows_are
    ∙ ap (λ (k : ℕ). pivoted_rows (table_rows l.cells.items k 0 hs) row column entering) en ∙ ap (pivoted_rows before row column) ee in
    ap (λ (rs : List TableauRow). record { non_basic = set us column leaving; rows = rs }) rows_
    ∙ ap (λ (b : ℕ). record { non_basic = set us column b; rows = after }) basic ∙ ap (λ (s : Tableau). pivoted s row column) view

-- how many cells are held
pub pivoted_held : (us us' : List ℕ) (hs hs' : List RowHead) (l l' : LinkedCells) (n row column entering : ℕ) (t : Tableau) (cells : List Cell)
    → record { non_basic = us; rows = table_rows l.cells.items (length us) 0 hs } ≡ t → l.cells.items ≡ cells → n ≡ length us → length us' ≡ length us →
    RowsPivoted n row column entering hs l hs' l' → length l'.cells.items ≤ length cells + filled_rows (length t.rows) (length t.non_basic) (numbers_of t)
    (numbers_of (record { non_basic = us'; rows = table_rows l'.cells.items (length us') 0 hs' }))
pivoted_held us us' hs hs' l l' n row column entering t cells view ec en eu d =
    let old : Tableau = record { non_basic = us; rows = table_rows l.cells.items (length us) 0 hs } in
    let new : Tableau = record { non_basic = us'; rows = table_rows l'.cells.items (length us') 0 hs' } in
    let f = value_in l.cells.items in
    let g = value_in l'.cells.items in
    let rows_ = length-table_rows l.cells.items (length us) 0 hs in
    let same = filled_rows_below (length hs) (length us) f g (numbers_of old) (numbers_of new)
    (λ i j a b. sym (table_cell l.cells.items (length us) hs i j a b))
    (λ i j a b. sym (table_cell l'.cells.items (length us') hs' i j (omega arith) (omega arith))) in
    let wide = ap (λ (k : ℕ). filled_rows (length hs) k f g) en in
    let high = ap (λ (k : ℕ). filled_rows k (length us) (numbers_of old) (numbers_of new)) rows_ in
    let kept = ap (λ (xs : List Cell). length xs) ec in
    subst (λ (s : Tableau). length l'.cells.items ≤ length cells + filled_rows (length s.rows) (length s.non_basic) (numbers_of s) (numbers_of new)) view
    (omega arith)
