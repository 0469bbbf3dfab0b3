-- What the text of a script says of values of its unknowns (SMT-LIB 2.6, theory Ints).
use Rattle.std.specs.Prelude.{ℕ, ℤ, pos, ◌≡◌, ◌+ℤ◌, ◌*ℤ◌, ◌≤ℤ◌, List, [], ◌∷◌, length}
use Rattle.std.specs.List.{AllByRecursion}
use Rattle.ta_linear.specs.Values.{point_of}
use Rattle.ta_smt.specs.Script.{AtLeast, Script, ScriptFits, Summand, Numeral, Unknown, Product, Term, Lone, Sum, script_text}

-- a numeral is its number, an unknown its value, `*` is the product
abbrev pub summand_value : (ℕ → ℤ) → Summand → ℤ
summand_value point (Numeral value) = pos value
summand_value point (Unknown number) = point number
summand_value point (Product factor number) = pos factor *ℤ point number

-- `+` is the sum
abbrev pub summands_value : (ℕ → ℤ) → List Summand → ℤ
summands_value point [] = pos 0
summands_value point (s ∷ ss) = summand_value point s +ℤ summands_value point ss

abbrev pub term_value : (ℕ → ℤ) → Term → ℤ
term_value point (Lone summand) = summand_value point summand
term_value point (Sum summands) = summands_value point summands

-- `>=` is the order
abbrev pub AtLeastHolds : (ℕ → ℤ) → AtLeast → Type 0
AtLeastHolds point claim = term_value point claim.right ≤ℤ term_value point claim.left

-- the text is that of a script that declares as many unknowns as there are values, and whose assertions hold of these
pub record Denotes (text : List ℕ) (values : List ℤ) : Type 0 where
  pub script : Script
  pub fits : ScriptFits script
  pub spelled : text ≡ script_text script
  pub count : length values ≡ script.unknowns
  pub hold : AllByRecursion (AtLeastHolds (point_of values)) script.asserted

-- a text is that of at most one script
abbrev pub ScriptsAreDetermined : Type 0
ScriptsAreDetermined = (s t : Script) → ScriptFits s → ScriptFits t → script_text s ≡ script_text t → s ≡ t
