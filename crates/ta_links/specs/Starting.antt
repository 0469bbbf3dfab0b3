-- The rows of a system, each solved for its slack.
use Rattle.std.specs.Prelude.{ℕ, suc, ◌<◌, ◌≤◌, ◌≡◌, List, [], ◌∷◌, ℤ, pos, get_or}
use Rattle.ta_linear.specs.Terms.{coefficient}
use Rattle.ta_linear.specs.declared.row.Row.{Row}
use Rattle.ta_links.specs.declared.row_head.RowHead.{RowHead}

-- the rows from a first one up to a number show their coefficients; earlier rows are unchanged, and later rows show nothing
pub record RowsShow (first : ℕ) (old : ℕ → ℕ → ℤ) (rows : List Row) (count : ℕ) (numbers : ℕ → ℕ → ℤ) : Type 0 where
  pub same : (i c : ℕ) → i < first → numbers i c ≡ old i c
  pub shown : (i c : ℕ) (d : Row) → first ≤ i → i < count → numbers i c ≡ coefficient (get_or rows i d).form.terms c
  pub empty : (i c : ℕ) → count ≤ i → numbers i c ≡ pos 0

-- the heads of rows, the first of whose slacks is v
abbrev pub slack_heads : ℕ → List Row → List RowHead
slack_heads v [] = []
slack_heads v (r ∷ rs) = record { basic = v; denominator = pos 1; constant = r.form.constant } ∷ slack_heads (suc v) rs
