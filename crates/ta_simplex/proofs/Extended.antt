-- a pivot of a tableau that is extended by columns and rows
use Rattle.ta_simplex.proofs.Common.{◌≡◌, ◌⊎◌, inl, inr, ℕ, suc, ◌+◌, ◌-◌, ◌<◌, ◌≤◌, List, [], ◌∷◌, ◌++◌, length, map, set, get_or, arith, refl, sym, ap, ◌∙◌}
use Rattle.ta_simplex.proofs.Common.{subst, ℤ, pos, replicate, range_with_len, ints, cases_lt, lt-ltb, le-ltb, map-append, map-set, length-map, length-append}
use Rattle.ta_simplex.proofs.Common.{set-append_left, get_or_append_left, get_or-append_right, get_or-map, length-range_with_len, InRange, TableauRow, Tableau}
use Rattle.ta_simplex.proofs.Common.{cell_of, no_row, row_of, basic_of, non_basic_of, merged, turned, pivoted, MergesInRange, MergesByInRange, CombinesInRange}
use Rattle.ta_simplex.proofs.Common.{RowsMergeBelow, FirstRefused, FirstOverflow, Enters, KeptPivot, chosen_row, after_pivot, widened, raised, record_same}
use Rattle.ta_simplex.proofs.Common.{tableau_same, MakesPivot, ◌*ℤ◌, ◌-ℤ◌, ◌<ℤ◌, ◌≤ℤ◌, Leaves}
use Rattle.ta_base.proofs.Lists.{filled_up_more}
use Rattle.ta_simplex.proofs.Widening.{cell_inside, cell_beyond, merged_widened, merged_chosen, turned_widened}

-- a tableau of n columns with e more, and with more rows
abbrev pub with_more : ℕ → ℕ → Tableau → List TableauRow → Tableau
with_more n e t rows = record { non_basic = map (raised n e) t.non_basic ++ range_with_len n e; rows = map (widened n e) t.rows ++ rows }

-- the tableau of a system with n unknowns and m rows
pub record OfSize (n m : ℕ) (t : Tableau) : Type 0 where
  pub columns : length t.non_basic ≡ n
  pub rows : length t.rows ≡ m
  pub long : (i : ℕ) → i < length t.rows → length (row_of t i).cells ≡ n
  pub basic_below : (i : ℕ) → i < length t.rows → basic_of t i < n + m
  pub non_basic_below : (j : ℕ) → j < length t.non_basic → non_basic_of t j < n + m

-- rows whose variables are new slacks
abbrev pub AreNewRows : ℕ → List TableauRow → Type 0
AreNewRows low rows = (i : ℕ) → i < length rows → low ≤ (get_or rows i no_row).basic

pub raised_at : (n e v : ℕ) → ((v < n) × (raised n e v ≡ v)) ⊎ ((n ≤ v) × (raised n e v ≡ v + e))
raised_at n e v =
    elim (cases_lt v n) [
      | inl less ↦ inl (less, rw (lt-ltb v n less) refl)
      | inr more ↦ inr (more, rw (le-ltb v n more) refl)
    ]

raised_less : (n e v w : ℕ) → raised n e v < raised n e w → v < w
raised_less n e v w h =
    elim (raised_at n e v) [
      | inl a ↦ elim (raised_at n e w) [
        | inl b ↦ (let p = a.1 in let q = b.1 in omega arith)
        | inr b ↦ (let p = a.0 in let q = b.0 in omega arith)
      ]
      | inr a ↦ elim (raised_at n e w) [
        | inl b ↦ (let p = a.0 in let q = b.0 in let r = a.1 in let s = b.1 in omega arith)
        | inr b ↦ (let p = a.1 in let q = b.1 in omega arith)
      ]
    ]

raised_most : (n e m v : ℕ) → v < n + m → raised n e v < (n + e) + m
raised_most n e m v h =
    elim (raised_at n e v) [ inl a ↦ (let p = a.1 in omega arith) | inr a ↦ (let p = a.1 in omega arith) ]

-- the rows and columns of the tableau with more
pub old_row : (n e : ℕ) (t : Tableau) (rows : List TableauRow) (i : ℕ) → i < length t.rows → row_of (with_more n e t rows) i ≡ widened n e (row_of t i)
old_row n e t rows i h =
    let l = length-map t.rows (widened n e) in
    get_or_append_left (map (widened n e) t.rows) rows no_row i (omega arith) ∙ get_or-map (widened n e) t.rows i no_row no_row h

pub new_row : (n e : ℕ) (t : Tableau) (rows : List TableauRow) (i : ℕ) → length t.rows ≤ i
    → row_of (with_more n e t rows) i ≡ get_or rows (i - length t.rows) no_row
new_row n e t rows i h = get_or-append_right (map (widened n e) t.rows) rows (length t.rows) i no_row (length-map t.rows (widened n e)) h

pub row_total : (n e : ℕ) (t : Tableau) (rows : List TableauRow) → length (with_more n e t rows).rows ≡ length t.rows + length rows
row_total n e t rows =
    let l = length-map t.rows (widened n e) in
    let k = length-append (map (widened n e) t.rows) rows in
    omega arith

pub old_column : (n e : ℕ) (t : Tableau) (rows : List TableauRow) (j : ℕ) → j < length t.non_basic
    → non_basic_of (with_more n e t rows) j ≡ raised n e (non_basic_of t j)
old_column n e t rows j h =
    let l = length-map t.non_basic (raised n e) in
    get_or_append_left (map (raised n e) t.non_basic) (range_with_len n e) 0 j (omega arith) ∙ get_or-map (raised n e) t.non_basic j 0 0 h

pub column_total : (n e : ℕ) (t : Tableau) (rows : List TableauRow) → length (with_more n e t rows).non_basic ≡ length t.non_basic + e
column_total n e t rows =
    let l = length-map t.non_basic (raised n e) in
    let k = length-append (map (raised n e) t.non_basic) (range_with_len n e) in
    let r = length-range_with_len n e in
    omega arith

map_same : (f g : TableauRow → TableauRow) → ((r : TableauRow) → f r ≡ g r) → (rs : List TableauRow) → map f rs ≡ map g rs
map_same f g same [] = refl
map_same f g same (r ∷ rs) = let first = same r in let rest = map_same f g same rs in cc

map_merged : (n e column : ℕ) (chosen : TableauRow) (rs : List TableauRow) → column < length chosen.cells
    → ((i : ℕ) → i < length rs → length (get_or rs i no_row).cells ≡ length chosen.cells) →
    map (merged column (widened n e chosen)) (map (widened n e) rs) ≡ map (widened n e) (map (merged column chosen) rs)
map_merged n e column chosen [] inside long = refl
map_merged n e column chosen (r ∷ rs) inside long =
    let h = long 0 (omega arith) in
    let first = merged_widened n e column chosen r h (omega arith) in
    let rest = map_merged n e column chosen rs inside (λ i k. long (suc i) (omega arith)) in
    cc

-- the kept row is the chosen one of the tableau with more, but for its variable
pub record IsChosen (columns : ℕ) (c : TableauRow) (k : KeptPivot) : Type 0 where
  pub denominator : c.denominator ≡ k.denominator
  pub constant : c.constant ≡ k.constant
  pub cells : c.cells ≡ k.cells ++ replicate (columns - length k.cells) (pos 0)

pub chosen_more : (n e : ℕ) (t : Tableau) (k : KeptPivot) → length t.non_basic ≡ n → MakesPivot t k → IsChosen (n + e) (widened n e (row_of t k.row)) k
chosen_more n e t k columns makes = record {
  denominator = makes.denominator;
  constant = makes.constant;
  cells = filled_up_more (row_of t k.row).cells k.cells n e (pos 0) (let h = makes.long in omega arith)
      (subst (λ (c : ℕ). (row_of t k.row).cells ≡ k.cells ++ replicate (c - length k.cells) (pos 0)) columns makes.cells);
}

new_rows_merged : (columns : ℕ) (c : TableauRow) (k : KeptPivot) (rows : List TableauRow) → IsChosen columns c k
    → map (merged k.column c) rows ≡ after_pivot columns k rows
new_rows_merged columns c k rows is =
    map_same (merged k.column c) (merged k.column (chosen_row columns k))
    (λ r. merged_chosen k.column c (chosen_row columns k) r is.denominator is.constant is.cells) rows

-- the pivot of the tableau with more
pub pivoted_more : (n m e : ℕ) (t : Tableau) (rows : List TableauRow) (k : KeptPivot) → OfSize n m t → MakesPivot t k →
    pivoted (with_more n e t rows) k.row k.column ≡ with_more n e (pivoted t k.row k.column) (after_pivot (n + e) k rows)
pivoted_more n m e t rows k size makes =
    let row = k.row in
    let column = k.column in
    let below = makes.leaves.below in
    let inside = makes.enters.below in
    let chosen = row_of t row in
    let wide = size.long row below in
    let columns = size.columns in
    let at = old_row n e t rows row below in
    let us = length-map t.non_basic (raised n e) in
    let basics : basic_of (with_more n e t rows) row ≡ raised n e (basic_of t row) = ap (λ (r : TableauRow). r.basic) at in
    let left : set (map (raised n e) t.non_basic ++ range_with_len n e) column (basic_of (with_more n e t rows) row) ≡ map (raised n e)
    (set t.non_basic column (basic_of t row)) ++ range_with_len n e =
    ap (set (map (raised n e) t.non_basic ++ range_with_len n e) column) basics
    ∙ set-append_left (map (raised n e) t.non_basic) (range_with_len n e) column (raised n e (basic_of t row)) (omega arith)
    ∙ ap (λ (xs : List ℕ). xs ++ range_with_len n e) (sym (map-set (raised n e) t.non_basic column (basic_of t row))) in
    let entering = old_column n e t rows column inside in
    let new_turned : turned (non_basic_of (with_more n e t rows) column) column (row_of (with_more n e t rows) row) ≡ widened n e
    (turned (non_basic_of t column) column chosen) =
    ap (λ (v : ℕ). turned v column (row_of (with_more n e t rows) row)) entering ∙ ap (turned (raised n e (non_basic_of t column)) column) at
    ∙ turned_widened n e column (non_basic_of t column) chosen (omega arith) in
    let old_rows = map_merged n e column chosen t.rows (omega arith) (λ i h. size.long i h ∙ sym wide) in
    let more_rows = new_rows_merged (n + e) (widened n e chosen) k rows (chosen_more n e t k columns makes) in
    let all : map (merged column (row_of (with_more n e t rows) row)) (with_more n e t rows).rows ≡ map (widened n e) (map (merged column chosen) t.rows)
    ++ after_pivot (n + e) k rows =
    ap (λ (c : TableauRow). map (merged column c) (map (widened n e) t.rows ++ rows)) at
    ∙ map-append (merged column (widened n e chosen)) (map (widened n e) t.rows) rows
    ∙ ap (λ (xs : List TableauRow). xs ++ map (merged column (widened n e chosen)) rows) old_rows
    ∙ ap (λ (xs : List TableauRow). map (widened n e) (map (merged column chosen) t.rows) ++ xs) more_rows in
    let l1 = length-map t.rows (merged column chosen) in
    let l2 = length-map (map (merged column chosen) t.rows) (widened n e) in
    let right =
    ap (λ (xs : List TableauRow). set xs row (turned (non_basic_of (with_more n e t rows) column) column (row_of (with_more n e t rows) row))) all
    ∙ ap (set (map (widened n e) (map (merged column chosen) t.rows) ++ after_pivot (n + e) k rows) row) new_turned
    ∙ set-append_left (map (widened n e) (map (merged column chosen) t.rows)) (after_pivot (n + e) k rows) row
    (widened n e (turned (non_basic_of t column) column chosen)) (omega arith)
    ∙ ap (λ (xs : List TableauRow). xs ++ after_pivot (n + e) k rows)
    (sym (map-set (widened n e) (map (merged column chosen) t.rows) row (turned (non_basic_of t column) column chosen))) in
    tableau_same (set (map (raised n e) t.non_basic ++ range_with_len n e) column (basic_of (with_more n e t rows) row))
    (map (raised n e) (set t.non_basic column (basic_of t row)) ++ range_with_len n e)
    (set (map (merged column (row_of (with_more n e t rows) row)) (with_more n e t rows).rows) row
    (turned (non_basic_of (with_more n e t rows) column) column (row_of (with_more n e t rows) row)))
    (map (widened n e) (set (map (merged column chosen) t.rows) row (turned (non_basic_of t column) column chosen)) ++ after_pivot (n + e) k rows)
    left right

-- the least variable that leaves is the same
pub leaves_more : (n m e : ℕ) (t : Tableau) (rows : List TableauRow) (row : ℕ) → OfSize n m t → AreNewRows ((n + e) + m) rows → Leaves t row
    → Leaves (with_more n e t rows) row
leaves_more n m e t rows row size new leaves =
    let at = old_row n e t rows row leaves.below in
    let total = row_total n e t rows in
    let here : basic_of (with_more n e t rows) row ≡ raised n e (basic_of t row) = ap (λ (r : TableauRow). r.basic) at in
    let most = raised_most n e m (basic_of t row) (size.basic_below row leaves.below) in
    record {
      below = omega arith;
      negative = subst (λ (r : TableauRow). r.constant <ℤ pos 0) (sym at) leaves.negative;
      least = λ i inside less. elim (cases_lt i (length t.rows)) [
        | inl old ↦
            let there = old_row n e t rows i old in
            let basics : basic_of (with_more n e t rows) i ≡ raised n e (basic_of t i) = ap (λ (r : TableauRow). r.basic) there in
            subst (λ (r : TableauRow). pos 0 ≤ℤ r.constant) (sym there) (leaves.least i old (raised_less n e (basic_of t i) (basic_of t row) (omega arith)))
        | inr later ↦
            let there = new_row n e t rows i later in
            let basics : basic_of (with_more n e t rows) i ≡ (get_or rows (i - length t.rows) no_row).basic = ap (λ (r : TableauRow). r.basic) there in
            let low = new (i - length t.rows) (omega arith) in
            absurd (omega arith)
      ];
    }

-- and so is the least that enters
pub enters_more : (n m e : ℕ) (t : Tableau) (rows : List TableauRow) (row column : ℕ) → OfSize n m t → row < length t.rows → Enters t row column
    → Enters (with_more n e t rows) row column
enters_more n m e t rows row column size below enters =
    let at = old_row n e t rows row below in
    let total = column_total n e t rows in
    let wide = size.long row below in
    let h = enters.below in
    let here = old_column n e t rows column h in
    record {
      below = omega arith;
      positive = rw (at, cell_inside n e (row_of t row) column (omega arith)) enters.positive;
      least = λ j inside less. elim (cases_lt j (length t.non_basic)) [
        | inl old ↦
            let there = old_column n e t rows j old in
            rw (at, cell_inside n e (row_of t row) j (omega arith))
            (enters.least j old (raised_less n e (non_basic_of t j) (non_basic_of t column) (omega arith)))
        | inr later ↦ rw (at, cell_beyond n e (row_of t row) j (omega arith)) (omega (arith, ints))
      ];
    }

zero_fits : (z : ℤ) → z ≡ pos 0 → InRange z
zero_fits z e = rw e (omega arith)

zeros_combine : (p a q c : ℤ) → a ≡ pos 0 → c ≡ pos 0 → CombinesInRange p a q c
zeros_combine p a q c e f =
    let left : p *ℤ a ≡ pos 0 = ap (λ (z : ℤ). p *ℤ z) e ∙ omega (arith, ints) in
    let right : q *ℤ c ≡ pos 0 = ap (λ (z : ℤ). q *ℤ z) f ∙ omega (arith, ints) in
    let difference : p *ℤ a -ℤ q *ℤ c ≡ pos 0 = omega (arith, ints, left, right) in
    record { left = zero_fits (p *ℤ a) left; right = zero_fits (q *ℤ c) right; difference = zero_fits (p *ℤ a -ℤ q *ℤ c) difference }

-- the products and differences of a widened row are those of the row, and zeros
merges_by_more : (n e : ℕ) (p q : ℤ) (column : ℕ) (chosen r : TableauRow) → length r.cells ≡ length chosen.cells → MergesByInRange p q column chosen r
    → MergesByInRange p q column (widened n e chosen) (widened n e r)
merges_by_more n e p q column chosen r long h = record {
  denominator = h.denominator;
  constant = h.constant;
  turned = h.turned;
  cells = λ j inside apart. elim (cases_lt j (length r.cells)) [
    | inl old ↦ rw (cell_inside n e r j old, cell_inside n e chosen j (omega arith)) (h.cells j old apart)
    | inr later ↦
        zeros_combine p (cell_of (widened n e r) j) q (cell_of (widened n e chosen) j) (cell_beyond n e r j later) (cell_beyond n e chosen j (omega arith))
  ];
}

merges_more : (n e column : ℕ) (chosen r : TableauRow) → length r.cells ≡ length chosen.cells → column < length r.cells → MergesInRange column chosen r
    → MergesInRange column (widened n e chosen) (widened n e r)
merges_more n e column chosen r long inside h =
    rw (cell_inside n e r column inside, cell_inside n e chosen column (omega arith))
    (λ some. merges_by_more n e _ _ column chosen r long (h some))

pub merges_chosen : (column : ℕ) (c c' r : TableauRow) → c.denominator ≡ c'.denominator → c.constant ≡ c'.constant → c.cells ≡ c'.cells
    → MergesInRange column c r → MergesInRange column c' r
merges_chosen column c c' r d b cells h =
    let with : TableauRow = record { basic = c.basic; denominator = c'.denominator; constant = c'.constant; cells = c'.cells } in
    let same = subst (λ (x : TableauRow). MergesInRange column x r) (record_same c with refl d b cells) h in
    λ some. (let g = same some in record { denominator = g.denominator; constant = g.constant; turned = g.turned; cells = g.cells })

-- the rule makes the same pivot where no new row leaves the range
pub makes_more : (n m e : ℕ) (t : Tableau) (rows : List TableauRow) (k : KeptPivot) → OfSize n m t → AreNewRows ((n + e) + m) rows → MakesPivot t k →
    RowsMergeBelow k.column (chosen_row (n + e) k) rows (length rows) → MakesPivot (with_more n e t rows) k
makes_more n m e t rows k size new makes below =
    let at = old_row n e t rows k.row makes.leaves.below in
    let chosen = chosen_more n e t k size.columns makes in
    let total = row_total n e t rows in
    let wide = column_total n e t rows in
    let long = size.long k.row makes.leaves.below in
    let inside = makes.enters.below in
    let sum : length t.non_basic + e ≡ n + e = omega arith in
    let all : length (with_more n e t rows).non_basic ≡ n + e = wide ∙ sum in
    record {
      leaves = leaves_more n m e t rows k.row size new makes.leaves;
      enters = enters_more n m e t rows k.row k.column size makes.leaves.below makes.enters;
      in_range = λ i h h' apart. elim (cases_lt i (length t.rows)) [
        | inl old ↦ rw (at, old_row n e t rows i old)
            (merges_more n e k.column (row_of t k.row) (row_of t i) (size.long i old ∙ sym long) (let w = size.long i old in omega arith)
            (makes.in_range i old old apart))
        | inr later ↦
            rw (at, new_row n e t rows i later)
            (merges_chosen k.column (chosen_row (n + e) k) (widened n e (row_of t k.row)) (get_or rows (i - length t.rows) no_row) (sym chosen.denominator)
            (sym chosen.constant) (sym chosen.cells) (below (i - length t.rows) (omega arith) (omega arith)))
      ];
      denominator = ap (λ (r : TableauRow). r.denominator) at ∙ chosen.denominator;
      constant = ap (λ (r : TableauRow). r.constant) at ∙ chosen.constant;
      cells = ap (λ (r : TableauRow). r.cells) at ∙ chosen.cells ∙ ap (λ (c : ℕ). k.cells ++ replicate (c - length k.cells) (pos 0)) (sym all);
      long = omega arith;
      inside = makes.inside;
    }

-- where a new row leaves the range in it, that is the least such row
pub overflows_more : (n m e : ℕ) (t : Tableau) (rows : List TableauRow) (k : KeptPivot) (new : ℕ) → OfSize n m t → MakesPivot t k →
    FirstRefused k.column (chosen_row (n + e) k) rows new → FirstOverflow (with_more n e t rows) k.row k.column (length t.rows + new)
overflows_more n m e t rows k new size makes first =
    let at = old_row n e t rows k.row makes.leaves.below in
    let chosen = chosen_more n e t k size.columns makes in
    let total = row_total n e t rows in
    let long = size.long k.row makes.leaves.below in
    let below = makes.leaves.below in
    let same : (length t.rows + new) - length t.rows ≡ new = omega arith in
    let there : row_of (with_more n e t rows) (length t.rows + new) ≡ get_or rows new no_row = new_row n e t rows (length t.rows + new) (omega arith)
    ∙ ap (λ (i : ℕ). get_or rows i no_row) same in
    record {
      below = omega arith;
      apart = omega arith;
      refused = λ h. first.refused
          (merges_chosen k.column (widened n e (row_of t k.row)) (chosen_row (n + e) k) (get_or rows new no_row) chosen.denominator chosen.constant chosen.cells
          (subst (λ (r : TableauRow). MergesInRange k.column (widened n e (row_of t k.row)) r) there
          (subst (λ (c : TableauRow). MergesInRange k.column c (row_of (with_more n e t rows) (length t.rows + new))) at h)));
      first = λ i h h' apart. elim (cases_lt i (length t.rows)) [
        | inl old ↦ rw (at, old_row n e t rows i old)
            (merges_more n e k.column (row_of t k.row) (row_of t i) (size.long i old ∙ sym long) (let w = size.long i old in omega arith)
            (makes.in_range i old old apart))
        | inr later ↦
            rw (at, new_row n e t rows i later)
            (merges_chosen k.column (chosen_row (n + e) k) (widened n e (row_of t k.row)) (get_or rows (i - length t.rows) no_row) (sym chosen.denominator)
            (sym chosen.constant) (sym chosen.cells) (first.first (i - length t.rows) (omega arith) (omega arith)))
      ];
    }
