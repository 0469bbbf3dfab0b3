-- When rows of the unknowns are those of a dictionary.
use Rattle.std.specs.Prelude.{ℕ, ◌<◌, ◌≡◌, length}
use Rattle.ta_linear.specs.declared.row.System.{System}
use Rattle.ta_dense.specs.Tableau.{Tableau, row_of, basic_of}
use Rattle.ta_dense.specs.Valid.{IsDictionaryRow}
use Rattle.ta_dense.specs.Slack.{IsAssignment}
use Rattle.ta_dense.specs.Laws.{DictionaryOf}

-- over the same non-basic variables, each unknown has a true row in lowest terms
pub record IsRevised (s : System) (t d : Tableau) : Type 0 where
  pub dictionary : DictionaryOf s t
  pub non_basic : d.non_basic ≡ t.non_basic
  pub count : length d.rows ≡ s.unknowns
  pub rows : (u : ℕ) → u < s.unknowns → IsDictionaryRow (IsAssignment s) t.non_basic (row_of d u)
  pub named : (u : ℕ) → u < s.unknowns → basic_of d u ≡ u
