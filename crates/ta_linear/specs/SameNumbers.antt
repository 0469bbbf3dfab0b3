-- Systems with the same numbers, however they are written.
use Rattle.std.specs.Prelude.{ℕ, ◌≡◌, List, [], ◌∷◌}
use Rattle.ta_linear.specs.Terms.{coefficient}
use Rattle.ta_linear.specs.declared.row.Row.{Row}
use Rattle.ta_linear.specs.declared.row.System.{System}

-- the same constant, and the same coefficient of each unknown
pub record SameRow (r q : Row) : Type 0 where
  pub constant : r.form.constant ≡ q.form.constant
  pub coefficients : (u : ℕ) → coefficient r.form.terms u ≡ coefficient q.form.terms u

-- row for row
abbrev pub RowsAlike : List Row → List Row → Type 0
RowsAlike [] [] = Unit {0}
RowsAlike (r ∷ rs) (q ∷ qs) = SameRow r q × RowsAlike rs qs
RowsAlike [] (q ∷ qs) = ⊥
RowsAlike (r ∷ rs) [] = ⊥

-- two systems of the same numbers, however each of them is written
pub record SameNumbers (s z : System) : Type 0 where
  pub unknowns : s.unknowns ≡ z.unknowns
  pub rows : RowsAlike s.rows z.rows
