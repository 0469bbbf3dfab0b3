-- When a system of the code is the constraint system of a schema.
use Rattle.std.specs.Prelude.{ℕ, pos, ◌≡◌, List, [], ◌∷◌, slice_index_or}
use Rattle.ta_linear.specs.Terms.{coefficient}
use Rattle.ta_linear.specs.declared.row.Row.{Row}
use Rattle.ta_linear.specs.declared.row.System.{System}
use Rattle.ta_automaton.specs.declared.automaton.Automaton.{Automaton}
use Rattle.ta_automaton.specs.declared.pattern.Pattern.{Pattern}
use Rattle.ta_words.specs.declared.element.Element.{Element}
use Rattle.ta_encode.specs.System.{LinearRow, Bound}
use Rattle.ta_encode.specs.Search.{Pending, Search, bounded_rows}
use Rattle.ta_encode.specs.PatternSearch.{pattern_search}

-- the same constant, and the same coefficient of each unknown
pub record IsRowOf (linear : LinearRow) (row : Row) : Type 0 where
  pub constant : row.form.constant ≡ linear.constant
  pub coefficients : (u : ℕ) → coefficient row.form.terms u ≡ slice_index_or linear.coefficients u (pos 0)

-- one row for each, in order
abbrev pub AreRowsOf : List LinearRow → List Row → Type 0
AreRowsOf [] [] = Unit {0}
AreRowsOf (l ∷ ls) (r ∷ rs) = IsRowOf l r × AreRowsOf ls rs
AreRowsOf [] (r ∷ rs) = ⊥
AreRowsOf (l ∷ ls) [] = ⊥

-- the unknowns and the rows of a system of a search
pub record SystemAt {E : Type 0} (s : Search E) (w : Pending E) (system : System) : Type 0 where
  pub unknowns : system.unknowns ≡ s.unknowns w.start w.past
  pub rows : AreRowsOf (bounded_rows s w) system.rows

-- those of a pattern's schema with bounds; pairs of guards change nothing of them
abbrev pub SystemOf : Automaton → Pattern → ℕ → List Element → List Bound → System → Type 0
SystemOf a p start past bounds system = SystemAt (pattern_search a p []) (record { start = start; past = past; bounds = bounds }) system
