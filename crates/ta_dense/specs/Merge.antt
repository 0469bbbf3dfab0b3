-- Which pivots stay in range, and the least row in which a pivot leaves it.
use Rattle.std.specs.Prelude.{ℕ, ◌<◌, List, ℤ, pos, ◌-ℤ◌, ◌*ℤ◌, ◌<ℤ◌, ◌≢◌, length, get_or, All, int_div, ◌≡◌}
use Rattle.ta_linear.specs.Numbers.{InRange}
use Rattle.ta_dense.specs.Tableau.{TableauRow, Tableau, cell_of, factor_divisor, no_row, row_of}

-- the products and the difference of one place are in range
pub record CombinesInRange (p a q c : ℤ) : Type 0 where
  pub left : InRange (p *ℤ a)
  pub right : InRange (q *ℤ c)
  pub difference : InRange (p *ℤ a -ℤ q *ℤ c)

-- those of each place beside the column
abbrev pub AllCombineInRange : ℤ → ℤ → List ℤ → List ℤ → ℕ → Type 0
AllCombineInRange p q xs cs column = (j : ℕ) → j < length xs → j ≢ column → CombinesInRange p (get_or xs j (pos 0)) q (get_or cs j (pos 0))

-- the products and differences of a row with two factors
pub record MergesByInRange (p q : ℤ) (column : ℕ) (chosen r : TableauRow) : Type 0 where
  pub denominator : InRange (p *ℤ r.denominator)
  pub constant : CombinesInRange p r.constant q chosen.constant
  pub turned : InRange (q *ℤ chosen.denominator)
  pub cells : AllCombineInRange p q r.cells chosen.cells column

-- each listed product and difference of a row is in range; a row whose cell is 0 has none
abbrev pub MergesInRange : ℕ → TableauRow → TableauRow → Type 0
MergesInRange column chosen r =
    let g = factor_divisor (cell_of chosen column) (cell_of r column) in
    cell_of r column ≢ pos 0 → MergesByInRange (int_div (cell_of chosen column) (pos g)) (int_div (cell_of r column) (pos g)) column chosen r

-- what each row of a dictionary keeps
pub record IsProper (columns : ℕ) (r : TableauRow) : Type 0 where
  pub positive : pos 0 <ℤ r.denominator
  pub denominator : InRange r.denominator
  pub constant : InRange r.constant
  pub cells : All InRange r.cells
  pub long : length r.cells ≡ columns

-- those of the rows before k
abbrev pub RowsMergeBelow : ℕ → TableauRow → List TableauRow → ℕ → Type 0
RowsMergeBelow column chosen rows k = (i : ℕ) → i < k → i < length rows → MergesInRange column chosen (get_or rows i no_row)

-- row k is the first that is refused
pub record FirstRefused (column : ℕ) (chosen : TableauRow) (rows : List TableauRow) (k : ℕ) : Type 0 where
  pub below : k < length rows
  pub refused : ¬ (MergesInRange column chosen (get_or rows k no_row))
  pub first : RowsMergeBelow column chosen rows k

-- those of the rows before k but one
abbrev pub OthersMergeBelow : ℕ → ℕ → TableauRow → List TableauRow → ℕ → Type 0
OthersMergeBelow row column chosen rows k = (i : ℕ) → i < k → i < length rows → i ≢ row → MergesInRange column chosen (get_or rows i no_row)

-- row k is the first other row that is refused
pub record FirstOtherRefused (row column : ℕ) (chosen : TableauRow) (rows : List TableauRow) (k : ℕ) : Type 0 where
  pub below : k < length rows
  pub apart : k ≢ row
  pub refused : ¬ (MergesInRange column chosen (get_or rows k no_row))
  pub first : OthersMergeBelow row column chosen rows k

-- each product and difference of a pivot is in range
abbrev pub AllMergeInRange : Tableau → ℕ → ℕ → Type 0
AllMergeInRange t row column = OthersMergeBelow row column (row_of t row) t.rows (length t.rows)

-- row k is the least in which a product or difference of a pivot leaves the range
abbrev pub FirstOverflow : Tableau → ℕ → ℕ → ℕ → Type 0
FirstOverflow t row column k = FirstOtherRefused row column (row_of t row) t.rows k
