-- sums of rows of 16-bit numbers and of multiples of the unknowns' rows
use Rattle.ta_revised.proofs.Common.{◌≡◌, ℕ, ◌<◌, ◌≤◌, ◌+◌, ◌-◌, ◌*◌, ◌/◌, ◌^◌, zero, suc, List, [], ◌∷◌, length, set, get_or, replicate, arith, refl, sym, ap}
use Rattle.ta_revised.proofs.Common.{subst, ◌∙◌, inl, inr, ℤ, pos, neg_ℤ, ◌+ℤ◌, ◌-ℤ◌, ◌*ℤ◌, ◌<ℤ◌, unsigned_abs, get_or-set_same, get_or-set_other, drop}
use Rattle.ta_revised.proofs.Common.{int_div, cases_eq, ints, ext_get_or, get_or-map, length-replicate, length-set, drop_more, All-from_get_or, All-set}
use Rattle.ta_revised.proofs.Common.{abs_sum, product_le, unsigned_abs-neg, expand, div-one, replicate_zeros, pos_abs, Row, System, AllBelow, IsNormal}
use Rattle.ta_revised.proofs.Common.{IsNormal-le, Tableau, TableauRow, cell_of, combine, no_row, reduced, IsProper, AreBounded, IsBound, CombinesIn16}
use Rattle.ta_revised.proofs.Common.{AllCombineIn16, narrow_view, IsNarrow, NarrowRow, get_or-combine, length-combine, variables, terms_at, revised_view}
use Rattle.ta_revised.proofs.Common.{factor_of, plus_row, plus_terms, scaled_constant, slack_row_over, AreUnknownRows, IsUnknownRow, unit_row, unknown_row}
use Rattle.ta_revised.proofs.Common.{unknown_rows, Inside, UnknownRow, Column, Basic, w16, SFits}
use Rattle.std.proofs.Math.ListN.{drop_of_length-le}
use Rattle.ta_base.proofs.Lists.{has_read}
use Rattle.ta_revised.proofs.Bounded.{cell_le, fits16, in_range_of}
use Rattle.ta_revised.proofs.NarrowFacts.{narrow_reduced}
use Rattle.ta_dense.proofs.RowFacts.{record_same}
use Rattle.ta_revised.specs.Chosen.{IsRowOf}
use Rattle.ta_revised.specs.Slack.{plus_cell}

-- a row of numbers with a bound is narrow where the bound fits
narrow_of : (n : ℕ) (new : NarrowRow) (x : TableauRow) → narrow_view new ≡ x → pos 0 <ℤ x.denominator → length x.cells ≡ n → IsBound new.bound x
    → new.bound < 2 ^ 15 → IsNarrow n new
narrow_of n new x e positive long bounded fits = record {
  proper = subst (IsProper n) (sym e) (record {
    positive = positive;
    denominator = in_range_of x.denominator new.bound bounded.denominator fits;
    constant = in_range_of x.constant new.bound bounded.constant fits;
    cells = λ i d h. in_range_of (get_or x.cells i d) new.bound (bounded.cells i d h) fits;
    long = long;
  });
  bounded = subst (λ (y : TableauRow). IsBound new.bound y) (sym e) bounded;
  fits = fits;
}

-- a row with a number more in a cell
pub narrow_plus_cell : (n column : ℕ) (f : ℤ) (a new : NarrowRow) → IsNarrow n a → column < n → narrow_view new ≡ plus_cell column f (narrow_view a)
    → new.bound ≡ a.bound + unsigned_abs f → new.bound < 2 ^ 15 → IsNarrow n new
narrow_plus_cell n column f a new k h e b fits =
    let long = k.proper.long in
    let own = k.bounded.denominator in
    let constant_le = k.bounded.constant in
    let cell = abs_sum (get_or a.cells column (pos 0)) f a.bound (unsigned_abs f) (cell_le a.cells a.bound column k.bounded.cells (omega arith))
    (omega arith) in
    narrow_of n new (plus_cell column f (narrow_view a)) e k.proper.positive (length-set a.cells column (cell_of (narrow_view a) column +ℤ f) ∙ long)
    (record {
      denominator = omega arith;
      constant = omega arith;
      cells = All-set (λ x. unsigned_abs x ≤ new.bound) a.cells column (cell_of (narrow_view a) column +ℤ f) (omega arith)
          (λ i d inside. (let le = k.bounded.cells i d inside in omega arith));
    }) fits

-- a cell's own number plus so many times another's
plus_is : (f x c : ℤ) → pos 1 *ℤ x -ℤ neg_ℤ f *ℤ c ≡ x +ℤ f *ℤ c
plus_is f x c = simp expand (omega (arith, ints))

-- bounds of such a sum
plus_le : (f x c : ℤ) (a b : ℕ) → unsigned_abs x ≤ a → unsigned_abs c ≤ b → unsigned_abs (x +ℤ f *ℤ c) ≤ a + unsigned_abs f * b
plus_le f x c a b h k = abs_sum x (f *ℤ c) a (unsigned_abs f * b) h (product_le f c b k)

combined_le : (f x c : ℤ) (a b : ℕ) → unsigned_abs x ≤ a → unsigned_abs c ≤ b → unsigned_abs (pos 1 *ℤ x -ℤ neg_ℤ f *ℤ c) ≤ a + unsigned_abs f * b
combined_le f x c a b h k = rw (plus_is f x c) (plus_le f x c a b h k)

-- a row and so many times another
pub narrow_plus_row : (n : ℕ) (f : ℤ) (b : ℕ) (r : TableauRow) (a new : NarrowRow) → IsNarrow n a → IsBound b r → length r.cells ≡ n
    → narrow_view new ≡ plus_row f r (narrow_view a) → new.bound ≡ a.bound + unsigned_abs f * b → new.bound < 2 ^ 15 → IsNarrow n new
narrow_plus_row n f b r a new k h wide e is fits =
    let long = k.proper.long in
    let same : length a.cells ≡ length r.cells = omega arith in
    let own = k.bounded.denominator in
    let sum_le = plus_le f a.constant r.constant a.bound b k.bounded.constant h.constant in
    let combined = length-combine (pos 1) (neg_ℤ f) a.cells r.cells same in
    narrow_of n new (plus_row f r (narrow_view a)) e k.proper.positive (combined ∙ long)
    (record {
      denominator = omega arith;
      constant = omega arith;
      cells = All-from_get_or (λ x. unsigned_abs x ≤ new.bound) (combine (pos 1) (neg_ℤ f) a.cells r.cells) (pos 0) (λ i below.
          rw (get_or-combine (pos 1) (neg_ℤ f) a.cells r.cells i same)
          (let le = combined_le f (get_or a.cells i (pos 0)) (get_or r.cells i (pos 0)) a.bound b (cell_le a.cells a.bound i k.bounded.cells (omega arith))
          (cell_le r.cells b i h.cells (omega arith)) in
          omega arith));
    }) fits

-- what the sum computes fits 16 bits
pub product_fits : (f c : ℤ) (b t : ℕ) → unsigned_abs c ≤ b → t + unsigned_abs f * b < 2 ^ 15 → SFits w16 (f *ℤ c)
product_fits f c b t h k = fits16 (f *ℤ c) (unsigned_abs f * b) (product_le f c b h) (omega arith)

pub sum_fits : (f x c : ℤ) (a b : ℕ) → unsigned_abs x ≤ a → unsigned_abs c ≤ b → a + unsigned_abs f * b < 2 ^ 15 → SFits w16 (x +ℤ f *ℤ c)
sum_fits f x c a b h k within = fits16 (x +ℤ f *ℤ c) (a + unsigned_abs f * b) (plus_le f x c a b h k) within

-- those of one place, and of each
combines_fit : (f x c : ℤ) (a b : ℕ) → unsigned_abs x ≤ a → unsigned_abs c ≤ b → a + unsigned_abs f * b < 2 ^ 15 → CombinesIn16 (pos 1) x (neg_ℤ f) c
combines_fit f x c a b h k within =
    let product = product_le f c b k in
    let same : x ≡ pos 1 *ℤ x = omega (arith, ints) in
    record {
      left = fits16 (pos 1 *ℤ x) a (subst (λ (z : ℤ). unsigned_abs z ≤ a) same h) (omega arith);
      right = fits16 (neg_ℤ f *ℤ c) (unsigned_abs f * b) (subst (λ (m : ℕ). unsigned_abs (neg_ℤ f *ℤ c) ≤ m * b) (unsigned_abs-neg f)
          (product_le (neg_ℤ f) c b k)) (omega arith);
      difference = fits16 (pos 1 *ℤ x -ℤ neg_ℤ f *ℤ c) (a + unsigned_abs f * b) (combined_le f x c a b h k) within;
    }

pub all_combine_fit : (f : ℤ) (a b : ℕ) (xs cs : List ℤ) → length cs ≡ length xs → AreBounded a xs → AreBounded b cs → a + unsigned_abs f * b < 2 ^ 15
    → AllCombineIn16 (pos 1) (neg_ℤ f) xs cs
all_combine_fit f a b xs cs same h k within i below =
    combines_fit f (get_or xs i (pos 0)) (get_or cs i (pos 0)) a b (cell_le xs a i h below) (cell_le cs b i k (omega arith)) within

-- so many times the row of an unknown that belongs to a column is a number in the column's cell
cell_added : (n column i : ℕ) (f : ℤ) (xs : List ℤ) → column < n → length xs ≡ n →
    get_or (set xs column (get_or xs column (pos 0) +ℤ f)) i (pos 0)
    ≡ get_or (combine (pos 1) (neg_ℤ f) xs (set (replicate n (pos 0)) column (pos 1))) i (pos 0)
cell_added n column i f xs h long =
    let zeros = length-replicate n (pos 0) in
    let wide = length-set (replicate n (pos 0)) column (pos 1) in
    let unit = set (replicate n (pos 0)) column (pos 1) in
    rw (get_or-combine (pos 1) (neg_ℤ f) xs unit i (omega arith))
    (elim (cases_eq i column) [
      | inl at ↦
          rw (
            at,
            get_or-set_same xs column (get_or xs column (pos 0) +ℤ f) (pos 0) (omega arith),
            get_or-set_same (replicate n (pos 0)) column (pos 1) (pos 0) (omega arith),
          )
          (sym (plus_is f (get_or xs column (pos 0)) (pos 1) ∙ omega (arith, ints)))
      | inr apart ↦
          rw (
            get_or-set_other xs column i (get_or xs column (pos 0) +ℤ f) (pos 0) apart,
            get_or-set_other (replicate n (pos 0)) column i (pos 1) (pos 0) apart,
            replicate_zeros n i,
          )
          (sym (plus_is f (get_or xs i (pos 0)) (pos 0) ∙ omega (arith, ints)))
    ])

cells_added : (n column : ℕ) (f : ℤ) (xs : List ℤ) → column < n → length xs ≡ n →
    set xs column (get_or xs column (pos 0) +ℤ f) ≡ combine (pos 1) (neg_ℤ f) xs (set (replicate n (pos 0)) column (pos 1))
cells_added n column f xs h long =
    let zeros = length-replicate n (pos 0) in
    let wide = length-set (replicate n (pos 0)) column (pos 1) in
    let left = length-set xs column (get_or xs column (pos 0) +ℤ f) in
    let right = length-combine (pos 1) (neg_ℤ f) xs (set (replicate n (pos 0)) column (pos 1)) (omega arith) in
    ext_get_or (pos 0) (set xs column (get_or xs column (pos 0) +ℤ f)) (combine (pos 1) (neg_ℤ f) xs (set (replicate n (pos 0)) column (pos 1))) (omega arith)
    (λ i _. cell_added n column i f xs h long)

-- the same for the rows, and for the factor of a term
column_added_by : (n v column : ℕ) (f : ℤ) (a : TableauRow) → column < n → length a.cells ≡ n → plus_cell column f a ≡ plus_row f (unit_row n v column) a
column_added_by n v column f a h long =
    record_same (plus_cell column f a) (plus_row f (unit_row n v column) a) refl refl (omega (arith, ints)) (cells_added n column f a.cells h long)

factor_of_column : (n v column scale : ℕ) (coefficient : ℤ) → pos scale *ℤ coefficient ≡ factor_of scale coefficient (unit_row n v column)
factor_of_column n v column scale coefficient = rw (div-one (pos scale)) (omega (arith, ints))

pub column_added : (n v column scale : ℕ) (coefficient f : ℤ) (u : UnknownRow) (a : TableauRow) → u ≡ Column v column → f ≡ pos scale *ℤ coefficient
    → column < n → length a.cells ≡ n → plus_cell column f a ≡ plus_row (factor_of scale coefficient (unknown_row n u)) (unknown_row n u) a
column_added n v column scale coefficient f u a is e h long =
    rw is (column_added_by n v column f a h long
    ∙ ap (λ (g : ℤ). plus_row g (unit_row n v column) a) (e ∙ factor_of_column n v column scale coefficient))

-- so many times the row of a basic unknown
factor_of_basic : (scale : ℕ) (coefficient : ℤ) (r : TableauRow) → pos 0 <ℤ r.denominator →
    pos (scale / unsigned_abs r.denominator) *ℤ coefficient ≡ factor_of scale coefficient r
factor_of_basic scale coefficient r positive =
    let quotient : pos (scale / unsigned_abs r.denominator) ≡ int_div (pos scale) r.denominator = ap (λ (d : ℤ). int_div (pos scale) d)
    (pos_abs r.denominator positive) in
    rw quotient (omega (arith, ints))

pub basic_added : (n scale : ℕ) (coefficient f : ℤ) (u : UnknownRow) (r : NarrowRow) (a : TableauRow) → u ≡ Basic r
    → f ≡ pos (scale / unsigned_abs r.denominator) *ℤ coefficient → pos 0 <ℤ r.denominator →
    plus_row f (narrow_view r) a ≡ plus_row (factor_of scale coefficient (unknown_row n u)) (unknown_row n u) a
basic_added n scale coefficient f u r a is e positive =
    rw is (ap (λ (g : ℤ). plus_row g (narrow_view r) a) (e ∙ factor_of_basic scale coefficient (narrow_view r) positive))

-- what is added and what is left make up the sum of all terms
pub record Adding (n scale : ℕ) (rows : List UnknownRow) (start : TableauRow) (all left : List (ℕ × ℤ)) (sum : NarrowRow) : Type 0 where
  pub place : ℕ
  pub normal : IsNormal place (length rows) left
  pub narrow : IsNarrow n sum
  pub value : plus_terms scale (unknown_rows n rows) (narrow_view sum) left ≡ plus_terms scale (unknown_rows n rows) start all

-- a term's unknown is below the number that all are below
pub term_inside : (low high : ℕ) (ts : List (ℕ × ℤ)) (i : ℕ) (d : ℕ × ℤ) → IsNormal low high ts → i < length ts → (get_or ts i d).0 < high
term_inside low high [] i d k h = absurd (omega arith)
term_inside low high (t ∷ ts) zero d k h = (let le = IsNormal-le (t.0 + 1) high ts k.2 in omega arith)
term_inside low high (t ∷ ts) (suc i) d k h = term_inside (t.0 + 1) high ts i d k.2 (omega arith)

-- the next term's unknown has a row
pub add-inside : (n scale : ℕ) (rows : List UnknownRow) (start : TableauRow) (all ts : List (ℕ × ℤ)) (i : ℕ) (d : ℕ × ℤ) (sum : NarrowRow)
    → Adding n scale rows start all (drop i ts) sum → i < length ts → (get_or ts i d).0 < length rows
add-inside n scale rows start all ts i d sum a h =
    let normal = rw (drop_more ts i d h) at a.normal in
    let below = IsNormal-le ((get_or ts i d).0 + 1) (length rows) (drop (i + 1) ts) normal.2 in
    omega arith

-- the row of the next term keeps what a row of an unknown keeps
pub add-row : (n scale : ℕ) (rows : List UnknownRow) (start : TableauRow) (all ts : List (ℕ × ℤ)) (i : ℕ) (d : ℕ × ℤ) (e r : UnknownRow) (sum : NarrowRow)
    → AreUnknownRows n rows → Adding n scale rows start all (drop i ts) sum → i < length ts → r ≡ get_or rows (get_or ts i d).0 e
    → IsUnknownRow (length sum.cells) r
add-row n scale rows start all ts i d e r sum are a h is =
    let inside = add-inside n scale rows start all ts i d sum a h in
    rw (is, a.narrow.proper.long) (are (get_or ts i d).0 e inside)

-- the next term is added
pub add-more : (n scale : ℕ) (rows : List UnknownRow) (start : TableauRow) (all ts : List (ℕ × ℤ)) (i : ℕ) (d : ℕ × ℤ) (e r : UnknownRow) (sum new : NarrowRow)
    → Adding n scale rows start all (drop i ts) sum → i < length ts → r ≡ get_or rows (get_or ts i d).0 e →
    narrow_view new ≡ plus_row (factor_of scale (get_or ts i d).1 (unknown_row (length sum.cells) r)) (unknown_row (length sum.cells) r) (narrow_view sum)
    → IsNarrow (length sum.cells) new → Adding n scale rows start all (drop (i + 1) ts) new
add-more n scale rows start all ts i d e r sum new a h at is narrow =
    let t = get_or ts i d in
    let normal = rw (drop_more ts i d h) at a.normal in
    let value = rw (drop_more ts i d h) at a.value in
    let inside = add-inside n scale rows start all ts i d sum a h in
    let own : unknown_row (length sum.cells) r ≡ get_or (unknown_rows n rows) t.0 no_row =
    ap (λ (m : ℕ). unknown_row m r) a.narrow.proper.long ∙ ap (unknown_row n) at ∙ sym (get_or-map (unknown_row n) rows t.0 e no_row inside) in
    let added : narrow_view new ≡ plus_row (factor_of scale t.1 (get_or (unknown_rows n rows) t.0 no_row)) (get_or (unknown_rows n rows) t.0 no_row)
    (narrow_view sum) = is ∙ ap (λ (x : TableauRow). plus_row (factor_of scale t.1 x) x (narrow_view sum)) own in
    record {
      place = t.0 + 1;
      normal = normal.2;
      narrow = subst (λ (m : ℕ). IsNarrow m new) a.narrow.proper.long narrow;
      value = ap (λ (x : TableauRow). plus_terms scale (unknown_rows n rows) x (drop (i + 1) ts)) added ∙ value;
    }

-- the steps of a slack's row
pub record Summed (columns scale slack : ℕ) (rows : List UnknownRow) (r : Row) (first sum new : NarrowRow) : Type 0 where
  pub value : narrow_view new ≡ slack_row_over scale columns (unknown_rows columns rows) slack r
  pub narrow : IsNarrow columns new

pub summed : (columns scale slack : ℕ) (rows : List UnknownRow) (r : Row) (first sum new : NarrowRow) → IsNarrow columns first
    → narrow_view first ≡ scaled_constant scale columns slack r.form.constant →
    narrow_view sum ≡ plus_terms scale (unknown_rows (length first.cells) rows) (narrow_view first) r.form.terms → IsNarrow (length first.cells) sum →
    narrow_view new ≡ reduced (narrow_view sum) → new.bound ≡ sum.bound → Summed columns scale slack rows r first sum new
summed columns scale slack rows r first sum new k e f l g h =
    let long : length first.cells ≡ columns = k.proper.long in
    record {
      value = g
          ∙ ap reduced (f ∙ ap (λ (n : ℕ). plus_terms scale (unknown_rows n rows) (narrow_view first) r.form.terms) long
          ∙ ap (λ (a : TableauRow). plus_terms scale (unknown_rows columns rows) a r.form.terms) e);
      narrow = narrow_reduced columns sum new (subst (λ (n : ℕ). IsNarrow n sum) long l) g h;
    }

-- a dictionary's rows as the fields have them
pub viewed : (d : Inside) (t : Tableau) (columns : ℕ) (rows : List UnknownRow) → revised_view d ≡ t → columns ≡ length d.non_basic.items → rows ≡ d.rows.items
    → unknown_rows columns rows ≡ t.rows
viewed d t columns rows e c r =
    ap (λ (n : ℕ). unknown_rows n rows) c ∙ ap (unknown_rows (length d.non_basic.items)) r ∙ ap (λ (x : Tableau). x.rows) e

pub viewed_columns : (d : Inside) (t : Tableau) (columns : ℕ) → revised_view d ≡ t → columns ≡ length d.non_basic.items → columns ≡ length t.non_basic
viewed_columns d t columns e c = c ∙ ap (λ (x : Tableau). length x.non_basic) e

-- the terms of the row that a slack belongs to
pub slack_terms : (s : System) (all : List Row) (r : Row) (v high : ℕ) → all ≡ s.rows → AllBelow s.unknowns s.rows → s.unknowns ≤ v → v < variables s
    → r ≡ get_or all (v - s.unknowns) r → s.unknowns ≡ high → IsNormal 0 high r.form.terms
slack_terms s all r v high e below low h is same =
    let normal = terms_at s.unknowns s.rows (v - s.unknowns) r below (omega arith) in
    subst (λ (n : ℕ). IsNormal 0 n r.form.terms) same
    (subst (λ (q : Row). IsNormal 0 s.unknowns q.form.terms) (sym (is ∙ ap (λ (qs : List Row). get_or qs (v - s.unknowns) r) e)) normal)

-- a slack's row is that of its variable
pub row_of_slack : (scale : ℕ) (s : System) (t : Tableau) (v columns : ℕ) (rows : List TableauRow) (all : List Row) (r : Row) (x : TableauRow)
    → rows ≡ t.rows → columns ≡ length t.non_basic → all ≡ s.rows → s.unknowns ≤ v → v < variables s →
    r ≡ get_or all (v - s.unknowns) r → x ≡ slack_row_over scale columns rows v r → IsRowOf scale s t v x
row_of_slack scale s t v columns rows all r x er ec e low h is value =
    let k = v - s.unknowns in
    let at : v ≡ s.unknowns + k = omega arith in
    let here : r ≡ get_or s.rows k r = is ∙ ap (λ (qs : List Row). get_or qs k r) e in
    let own : x ≡ slack_row_over scale (length t.non_basic) t.rows v r =
    value ∙ ap (λ (n : ℕ). slack_row_over scale n rows v r) ec ∙ ap (λ (ys : List TableauRow). slack_row_over scale (length t.non_basic) ys v r) er in
    inr (k, at, has_read s.rows k r (λ (q : Row). x ≡ slack_row_over scale (length t.non_basic) t.rows v q) (omega arith) here own)
