-- Tableaus of integers, and the tableau after a pivot. Source: Chvátal, Linear Programming, 1983 (dictionaries and pivots).
use Rattle.std.specs.Prelude.{ℕ, zero, List, [], ◌∷◌, ℤ, pos, neg_ℤ, ◌-ℤ◌, ◌*ℤ◌, int_div, unsigned_abs, map, set, get_or}
use Rattle.ta_linear.specs.Gcd.{gcd_of}

-- the greatest common divisor of a number and a list's
abbrev pub gcd_with : ℕ → List ℤ → ℕ
gcd_with g [] = g
gcd_with g (x ∷ xs) = gcd_with (gcd_of g (unsigned_abs x)) xs

-- the numbers of the row `denominator * basic = constant + sum of cells * non-basic`
pub record TableauRow : Type 0 where
  pub basic : ℕ
  pub denominator : ℤ
  pub constant : ℤ
  pub cells : List ℤ

-- the non-basic variables, one for each column, and the rows
pub record Tableau : Type 0 where
  pub non_basic : List ℕ
  pub rows : List TableauRow

abbrev pub no_row : TableauRow
no_row = record { basic = 0; denominator = pos 1; constant = pos 0; cells = [] }

abbrev pub row_of : Tableau → ℕ → TableauRow
row_of t row = get_or t.rows row no_row

abbrev pub basic_of : Tableau → ℕ → ℕ
basic_of t row = (row_of t row).basic

abbrev pub non_basic_of : Tableau → ℕ → ℕ
non_basic_of t column = get_or t.non_basic column 0

-- the cell of a column
abbrev pub cell_of : TableauRow → ℕ → ℤ
cell_of r column = get_or r.cells column (pos 0)

-- the chosen row `d*l = b + Σ c_j*u_j + c*e` solved for e, the variable that enters: `c*e = -b - Σ c_j*u_j + d*l`, where the column now
-- belongs to l
abbrev pub turned : ℕ → ℕ → TableauRow → TableauRow
turned entering column r = record {
  basic = entering;
  denominator = cell_of r column;
  constant = neg_ℤ r.constant;
  cells = set (map neg_ℤ r.cells) column r.denominator;
}

-- the greatest common divisor of all numbers of a row
abbrev pub divisor_of : TableauRow → ℕ
divisor_of r = gcd_with (unsigned_abs r.denominator) (r.constant ∷ r.cells)

abbrev pub divided : ℕ → TableauRow → TableauRow
divided g r = record {
  basic = r.basic;
  denominator = int_div r.denominator (pos g);
  constant = int_div r.constant (pos g);
  cells = map (λ z. int_div z (pos g)) r.cells;
}

-- a row in lowest terms
abbrev pub reduced : TableauRow → TableauRow
reduced r = divided (divisor_of r) r

-- p times the first list minus q times the second, place by place
abbrev pub combine : ℤ → ℤ → List ℤ → List ℤ → List ℤ
combine p q [] cs = []
combine p q (a ∷ xs) [] = []
combine p q (a ∷ xs) (c ∷ cs) = (p *ℤ a -ℤ q *ℤ c) ∷ combine p q xs cs

-- another row `k*v = m + Σ a_j*u_j + a*e` with e taken out: `(p*k)*v = (p*m - q*b) + Σ (p*a_j - q*c_j)*u_j + (q*d)*l`
abbrev pub merged_by : ℤ → ℤ → ℕ → TableauRow → TableauRow → TableauRow
merged_by p q column chosen r = record {
  basic = r.basic;
  denominator = p *ℤ r.denominator;
  constant = p *ℤ r.constant -ℤ q *ℤ chosen.constant;
  cells = set (combine p q r.cells chosen.cells) column (q *ℤ chosen.denominator);
}

-- the greatest common divisor of the chosen row's cell and another row's
abbrev pub factor_divisor : ℤ → ℤ → ℕ
factor_divisor c a = gcd_of (unsigned_abs c) (unsigned_abs a)

-- the row as it is after the pivot, by its cell a of the column: where a is 0 it stays; else, with `g = gcd(c, a)`, `p = c/g` and `q =
-- a/g`, it is the merged row in lowest terms
abbrev pub merged_at : ℤ → ℕ → TableauRow → TableauRow → TableauRow
merged_at (pos zero) column chosen r = r
merged_at a column chosen r =
    let g = factor_divisor (cell_of chosen column) a in
    reduced (merged_by (int_div (cell_of chosen column) (pos g)) (int_div a (pos g)) column chosen r)

unfoldable pub merged : ℕ → TableauRow → TableauRow → TableauRow
merged column chosen r = merged_at (cell_of r column) column chosen r

-- the rows after a pivot
abbrev pub pivoted_rows : List TableauRow → ℕ → ℕ → ℕ → List TableauRow
pivoted_rows rows row column entering =
    let chosen = get_or rows row no_row in
    set (map (merged column chosen) rows) row (turned entering column chosen)

-- the tableau after the variable of a row leaves and that of a column enters
abbrev pub pivoted : Tableau → ℕ → ℕ → Tableau
pivoted t row column = record {
  non_basic = set t.non_basic column (basic_of t row);
  rows = pivoted_rows t.rows row column (non_basic_of t column);
}
