-- Scripts in the logic QF_LIA, as far as systems of rows need them, and their texts. Source: SMT-LIB 2.6.
use Rattle.std.specs.Prelude.{ℕ, ◌<◌, ◌^◌, List, [], ◌∷◌, ◌++◌, codes, decimal, map}
use Rattle.std.specs.List.{AllByRecursion, range_with_len}
use Rattle.ta_replay.specs.RunText.{lines_text}

-- a numeral, an unknown by its number, or a numeral times an unknown
pub data Summand : Type 0 where
  Numeral : (value : ℕ) → Summand
  Unknown : (number : ℕ) → Summand
  Product : (factor number : ℕ) → Summand

-- a summand by itself, or a sum of summands
pub data Term : Type 0 where
  Lone : (summand : Summand) → Term
  Sum : (summands : List Summand) → Term

-- left >= right
pub record AtLeast : Type 0 where
  pub left : Term
  pub right : Term

-- how many unknowns are declared, each an integer, and what is asserted, in order
pub record Script : Type 0 where
  pub unknowns : ℕ
  pub asserted : List AtLeast

-- `uK`
abbrev pub unknown_text : ℕ → List ℕ
unknown_text number = codes "u" ++ decimal number

-- `N`, `uK` or `(* N uK)`
abbrev pub summand_text : Summand → List ℕ
summand_text (Numeral value) = decimal value
summand_text (Unknown number) = unknown_text number
summand_text (Product factor number) = codes "(* " ++ (decimal factor ++ (codes " " ++ (unknown_text number ++ codes ")")))

-- each with one space before it
abbrev pub summands_text : List Summand → List ℕ
summands_text [] = []
summands_text (s ∷ ss) = codes " " ++ (summand_text s ++ summands_text ss)

-- the summand, or `(+ S S ..)`
abbrev pub term_text : Term → List ℕ
term_text (Lone summand) = summand_text summand
term_text (Sum summands) = codes "(+" ++ (summands_text summands ++ codes ")")

-- `(declare-fun uK () Int)`
abbrev pub declare_line : ℕ → List ℕ
declare_line number = codes "(declare-fun " ++ (unknown_text number ++ codes " () Int)")

-- `(assert (>= L R))`
abbrev pub assert_line : AtLeast → List ℕ
assert_line claim = codes "(assert (>= " ++ (term_text claim.left ++ (codes " " ++ (term_text claim.right ++ codes "))")))

-- the logic, a line for each unknown in order, a line for each assertion in order, and the question
abbrev pub script_lines : Script → List (List ℕ)
script_lines script = codes "(set-logic QF_LIA)" ∷
    (map declare_line (range_with_len 0 script.unknowns) ++ (map assert_line script.asserted ++ codes "(check-sat)" ∷ []))

-- the text of a script: each line with its line feed
abbrev pub script_text : Script → List ℕ
script_text script = lines_text (script_lines script)

-- the numbers in it are below 2^127
abbrev pub SummandFits : Summand → Type 0
SummandFits (Numeral value) = value < 2 ^ 127
SummandFits (Unknown number) = number < 2 ^ 127
SummandFits (Product factor number) = (factor < 2 ^ 127) × (number < 2 ^ 127)

abbrev pub TermFits : Term → Type 0
TermFits (Lone summand) = SummandFits summand
TermFits (Sum summands) = AllByRecursion SummandFits summands

abbrev pub ScriptFits : Script → Type 0
ScriptFits script = AllByRecursion (λ (claim : AtLeast). TermFits claim.left × TermFits claim.right) script.asserted
