-- two systems of the same numbers begin with one tableau
use Rattle.ta_simplex.proofs.Common.{◌≡◌, ℕ, suc, List, [], ◌∷◌, length, refl, ap, ◌∙◌, range_with_len, coefficient, Row, System, coefficients, slack_row_of}
use Rattle.ta_simplex.proofs.Common.{slack_rows, slack_tableau, tableau_same, SameRow, RowsAlike, SameNumbers, map_same}
use Rattle.ta_linear.proofs.RowsAlike.{count_alike}

slack_row_same : (n v : ℕ) (r q : Row) → SameRow r q → slack_row_of n v r ≡ slack_row_of n v q
slack_row_same n v r q same =
    let cells : coefficients n r.form.terms ≡ coefficients n q.form.terms = map_same (coefficient r.form.terms) (coefficient q.form.terms) (range_with_len 0 n)
    same.coefficients in
    cc

slack_rows_same : (n v : ℕ) (rs qs : List Row) → RowsAlike rs qs → slack_rows n v rs ≡ slack_rows n v qs
slack_rows_same n v [] [] same = refl
slack_rows_same n v [] (q ∷ qs) same = absurd same
slack_rows_same n v (r ∷ rs) [] same = absurd same
slack_rows_same n v (r ∷ rs) (q ∷ qs) same =
    let first = slack_row_same n v r q same.0 in
    let rest = slack_rows_same n (suc v) rs qs same.1 in
    cc

-- what two such systems share
pub record SameStart (s z : System) : Type 0 where
  pub unknowns : s.unknowns ≡ z.unknowns
  pub count : length s.rows ≡ length z.rows
  pub tableau : slack_tableau s ≡ slack_tableau z

pub same_start : (s z : System) → SameNumbers s z → SameStart s z
unfolding slack_tableau
same_start s z same = record {
  unknowns = same.unknowns;
  count = count_alike s.rows z.rows same.rows;
  tableau = tableau_same (range_with_len 0 s.unknowns) (range_with_len 0 z.unknowns) (slack_rows s.unknowns s.unknowns s.rows)
      (slack_rows z.unknowns z.unknowns z.rows)
      (ap (range_with_len 0) same.unknowns)
      (slack_rows_same s.unknowns s.unknowns s.rows z.rows same.rows ∙ ap (λ (n : ℕ). slack_rows n n z.rows) same.unknowns);
}
