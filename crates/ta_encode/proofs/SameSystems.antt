-- two systems of one word have the same numbers
use Rattle.ta_encode.proofs.Common.{List, [], ◌∷◌, sym, ◌∙◌, IsRowOf, AreRowsOf, SystemAt, LinearRow, Pending, Search, bounded_rows, Row, System}
use Rattle.ta_linear.specs.SameNumbers.{SameRow, RowsAlike, SameNumbers}

row_same : (l : LinearRow) (r q : Row) → IsRowOf l r → IsRowOf l q → SameRow r q
row_same l r q is are = record { constant = is.constant ∙ sym are.constant; coefficients = λ u. is.coefficients u ∙ sym (are.coefficients u) }

rows_same : (ls : List LinearRow) (rs qs : List Row) → AreRowsOf ls rs → AreRowsOf ls qs → RowsAlike rs qs
rows_same [] [] [] is are = tt
rows_same [] [] (q ∷ qs) is are = absurd are
rows_same [] (r ∷ rs) qs is are = absurd is
rows_same (l ∷ ls) [] qs is are = absurd is
rows_same (l ∷ ls) (r ∷ rs) [] is are = absurd are
rows_same (l ∷ ls) (r ∷ rs) (q ∷ qs) is are = (row_same l r q is.0 are.0, rows_same ls rs qs is.1 are.1)

-- two systems that are one word's have the same numbers
pub same_numbers : {E : Type 0} (s : Search E) (w : Pending E) (y z : System) → SystemAt s w y → SystemAt s w z → SameNumbers y z
same_numbers s w y z is are = record { unknowns = is.unknowns ∙ sym are.unknowns; rows = rows_same (bounded_rows s w) y.rows z.rows is.rows are.rows }
