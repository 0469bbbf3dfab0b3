-- The row of a slack, from its system's row and the rows of the unknowns.
use Rattle.std.specs.Prelude.{ℕ, ℤ, pos, neg_ℤ, ◌+ℤ◌, ◌*ℤ◌, List, [], ◌∷◌, get_or, set, replicate, int_div}
use Rattle.ta_linear.specs.declared.row.Row.{Row}
use Rattle.ta_dense.specs.Tableau.{TableauRow, no_row, cell_of, combine, reduced}

-- a row with f times another's constant and cells
abbrev pub plus_row : ℤ → TableauRow → TableauRow → TableauRow
plus_row f r a = record {
  basic = a.basic;
  denominator = a.denominator;
  constant = a.constant +ℤ f *ℤ r.constant;
  cells = combine (pos 1) (neg_ℤ f) a.cells r.cells;
}

-- a row with a number more in the cell of a column
abbrev pub plus_cell : ℕ → ℤ → TableauRow → TableauRow
plus_cell column f a = record { basic = a.basic; denominator = a.denominator; constant = a.constant; cells = set a.cells column (cell_of a column +ℤ f) }

-- how often an unknown's row is added for a term
abbrev pub factor_of : ℕ → ℤ → TableauRow → ℤ
factor_of scale coefficient r = coefficient *ℤ int_div (pos scale) r.denominator

-- a row and the scale times some terms, over the rows of the unknowns
abbrev pub plus_terms : ℕ → List TableauRow → TableauRow → List (ℕ × ℤ) → TableauRow
plus_terms scale rs a [] = a
plus_terms scale rs a (t ∷ ts) = plus_terms scale rs (plus_row (factor_of scale t.1 (get_or rs t.0 no_row)) (get_or rs t.0 no_row) a) ts

-- the scale times a constant
abbrev pub scaled_constant : ℕ → ℕ → ℕ → ℤ → TableauRow
scaled_constant scale columns slack c = record { basic = slack; denominator = pos scale; constant = pos scale *ℤ c; cells = replicate columns (pos 0) }

-- the scale times a row's form, over the rows of the unknowns
abbrev pub slack_sum : ℕ → ℕ → List TableauRow → ℕ → Row → TableauRow
slack_sum scale columns rs slack r = plus_terms scale rs (scaled_constant scale columns slack r.form.constant) r.form.terms

-- the slack's row
abbrev pub slack_row_over : ℕ → ℕ → List TableauRow → ℕ → Row → TableauRow
slack_row_over scale columns rs slack r = reduced (slack_sum scale columns rs slack r)
