-- The multipliers of a Farkas certificate over the rows that it names, and the system of a schema without bounds.
use Rattle.std.specs.Prelude.{ℕ, ℤ, ◌+◌, List, [], ◌∷◌}
use Rattle.ta_linear.specs.declared.row.System.{System}
use Rattle.ta_encode.specs.Code.{SystemAt}
use Rattle.ta_encode.specs.Search.{Pending, Search}

-- the system of a schema, its bounds left out
abbrev pub WithoutBounds : {E : Type 0} → Search E → Pending E → System → Type 0
WithoutBounds search w system = SystemAt search (record w { bounds = [] }) system

-- multipliers numbered by their places, from a number on
abbrev pub renumbered : ℕ → List (ℕ × ℤ) → List (ℕ × ℤ)
renumbered k [] = []
renumbered k (t ∷ ts) = (k, t.1) ∷ renumbered (k + 1) ts
