-- The rows of a system in short numbers: what they mean.
use Rattle.std.specs.Prelude.{ℕ, ℤ, ◌≤◌, ◌≡◌, pos, ◌+ℤ◌, ◌*ℤ◌, List, [], ◌∷◌, map, length, get_or}
use Rattle.std.specs.List.{slice_range}
use Rattle.ta_linear.specs.Values.{terms_value}
use Rattle.ta_linear.specs.declared.row.Row.{Row}
use Rattle.ta_revised.specs.Modest.{AreModestRows}
use Rattle.ta_revised.specs.declared.short_rows.ShortRow.{ShortRow}
use Rattle.ta_revised.specs.declared.short_rows.ShortRows.{ShortRows}

-- a row's constant and terms
abbrev pub row_parts : Row → ℤ × List (ℕ × ℤ)
row_parts r = (r.form.constant, r.form.terms)

-- those of a row in short numbers, whose terms stand among these
abbrev pub short_parts : List (ℕ × ℤ) → ShortRow → ℤ × List (ℕ × ℤ)
short_parts ts r = (r.constant, slice_range ts r.from r.to)

-- the terms of each row stand behind those of the rows before it, and all of them between two places
abbrev pub StandBetween : ℕ → List ShortRow → ℕ → Type 0
StandBetween from [] to = from ≤ to
StandBetween from (r ∷ rs) to = (from ≤ r.from) × (r.from ≤ r.to) × StandBetween r.to rs to

-- these are a system's rows, and modest
pub record AreShort (s : ShortRows) (rows : List Row) : Type 0 where
  pub order : StandBetween 0 s.rows.items (length s.terms.items)
  pub are : map (short_parts s.terms.items) s.rows.items ≡ map row_parts rows
  pub modest : AreModestRows rows

-- the scale times the value of a row with this constant and these terms, at values over the scale
abbrev pub parts_value : ℕ → List ℤ → ℤ × List (ℕ × ℤ) → ℤ
parts_value scale values r = terms_value (λ u. get_or values u (pos 0)) r.1 +ℤ pos scale *ℤ r.0
