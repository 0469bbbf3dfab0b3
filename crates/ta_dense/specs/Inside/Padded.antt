-- Rows with more columns.
use Rattle.std.specs.Prelude.{ℕ, ◌-◌, ◌++◌, pos, length, replicate}
use Rattle.ta_dense.specs.Tableau.{TableauRow}

-- the row of another variable, with 0 in each new column up to this many
abbrev pub padded : ℕ → ℕ → TableauRow → TableauRow
padded basic columns r = record
    { basic = basic; denominator = r.denominator; constant = r.constant; cells = r.cells ++ replicate (columns - length r.cells) (pos 0) }

-- the row with this many more columns, each of them 0
abbrev pub zero_filled : ℕ → TableauRow → TableauRow
zero_filled new r = record { basic = r.basic; denominator = r.denominator; constant = r.constant; cells = r.cells ++ replicate new (pos 0) }
