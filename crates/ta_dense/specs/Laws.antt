-- The laws of dictionaries: the slack tableau is one, pivots keep them, and their rows are unique.
use Rattle.std.specs.Prelude.{ℕ, ◌<◌, ◌+◌, ◌≡◌, ◌≢◌, List, ◌∷◌, ◌++◌, pos, ◌<ℤ◌, length}
use Rattle.ta_linear.specs.declared.row.Row.{Row}
use Rattle.ta_linear.specs.declared.row.System.{System}
use Rattle.ta_dense.specs.Tableau.{TableauRow, Tableau, row_of, basic_of, cell_of, pivoted}
use Rattle.ta_dense.specs.Valid.{IsDictionaryRow, IsDictionary}
use Rattle.ta_dense.specs.Leaving.{Leaves}
use Rattle.ta_dense.specs.Slack.{IsAssignment, slack_tableau, variables}

-- the tableau is a dictionary of a system
abbrev pub DictionaryOf : System → Tableau → Type 0
DictionaryOf s t = IsDictionary (IsAssignment s) (variables s) t

abbrev pub SlacksAreADictionary : Type 0
SlacksAreADictionary = (s : System) → DictionaryOf s (slack_tableau s)

abbrev pub PivotsKeepDictionaries : Type 0
PivotsKeepDictionaries =
    (s : System) (t : Tableau) (row column : ℕ) → DictionaryOf s t → row < length t.rows → column < length t.non_basic → pos 0 <ℤ cell_of (row_of t row) column
    →
    DictionaryOf s (pivoted t row column)

abbrev pub RowsAreUnique : Type 0
RowsAreUnique =
    (s : System) (t : Tableau) (r r' : TableauRow) → DictionaryOf s t → IsDictionaryRow (IsAssignment s) t.non_basic r
    → IsDictionaryRow (IsAssignment s) t.non_basic r' → r.basic ≡ r'.basic → r ≡ r'

-- a system has a row twice: by the least-index rule the slack of the second never leaves
abbrev pub EqualRowsNeverLeave : Type 0
EqualRowsNeverLeave =
    (s : System) (t : Tableau) (before rest between after : List Row) (r : Row) (k : ℕ) → DictionaryOf s t → s.rows ≡ before ++ r ∷ rest → rest ≡ between
    ++ r ∷ after → Leaves t k →
    basic_of t k ≢ s.unknowns + length before + 1 + length between
