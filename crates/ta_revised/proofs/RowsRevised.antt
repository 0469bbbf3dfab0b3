-- the rows of a dictionary are the unknowns' rows, and for slacks the sums of these
use Rattle.ta_revised.proofs.Common.{ℕ, ◌<◌, ◌≡◌, length, sym, System, Tableau, basic_of, row_of, RowsAreRevised, IsRevised}
use Rattle.ta_revised.proofs.SlackTrue.{basic_row_is, slack_row_is}

-- the row of a basic unknown is its own
pub unknown_row_is : (s : System) (t d : Tableau) (i : ℕ) → IsRevised s t d → i < length t.rows → basic_of t i < s.unknowns
    → row_of t i ≡ row_of d (basic_of t i)
unknown_row_is s t d i v h inside = basic_row_is s t d i (row_of d (basic_of t i)) v h (v.rows (basic_of t i) inside) (sym (v.named (basic_of t i) inside))

pub rows_revised : RowsAreRevised
rows_revised = record {
  unknown = λ s t d i v h inside. unknown_row_is s t d i v h inside;
  slack = λ s t d scale i k v is h same. slack_row_is s t d scale i k v is h same;
}
