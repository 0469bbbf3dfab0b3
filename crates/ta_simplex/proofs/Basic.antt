-- which variables are basic, as a test
use Rattle.ta_simplex.proofs.Common.{ℕ, List, [], ◌∷◌, Bool, false, ◌||◌, eqb, TableauRow, Tableau}

abbrev pub is_basic_in : List TableauRow → ℕ → Bool
is_basic_in [] v = false
is_basic_in (r ∷ rs) v = eqb r.basic v || is_basic_in rs v

abbrev pub is_basic : Tableau → ℕ → Bool
is_basic t v = is_basic_in t.rows v
