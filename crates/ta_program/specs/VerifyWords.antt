-- The command-line words of `verify`.
use Rattle.std.specs.Prelude.{ℕ, Bool, List, [], ◌∷◌, codes, option_and_then, option_map, Option}
use Rattle.ta_verdict.specs.declared.budget.Budget.{Budget}
use Rattle.ta_program.specs.Values.{budget_of, file_name_of, out_of, wide_of}
use Rattle.ta_program.specs.Words.{Form, Taken, asked_by, behind_name, flag, is_given, plain_of, option_value, valued}

-- what they ask for: the names of FILE, of OUT and of a pattern, as far as these are given, whether the wide limits are meant, the budget for each pattern,
-- whether the report is to be in JSON, and whether it is to tell something of all
pub record VerifyWords : Type 0 where
  pub file : List ℕ
  pub wide : Bool
  pub budget : Budget
  pub out : Option (List ℕ)
  pub json : Bool
  pub pattern : Option (List ℕ)
  pub all : Bool

abbrev pub verify_form : Form
verify_form = record {
  plain = 1;
  options = valued (codes "--nodes") ∷ valued (codes "--certificate") ∷ flag (codes "--json") ∷ flag (codes "--lazy")
      ∷ valued (codes "--pattern") ∷ flag (codes "--all") ∷ flag (codes "--wide") ∷ [];
}

abbrev pub verify_taken : Taken → Option VerifyWords
verify_taken t = option_and_then (λ file. option_and_then (λ n. option_and_then (λ o. option_map (λ w. record
    { file = file; wide = w; budget = record { nodes = n; lazy = is_given t 3 }; out = o; json = is_given t 2; pattern = option_value t 4; all = is_given t 5 })
    (wide_of (is_given t 6) (is_given t 3))) (out_of file (option_value t 1))) (budget_of (option_value t 0))) (file_name_of (plain_of t 0))

-- the request of the words after the command's name
abbrev pub verify_words : List (List ℕ) → Option VerifyWords
verify_words = asked_by verify_form verify_taken

-- `verify FILE [--nodes N] [--certificate OUT] [--json] [--lazy [--wide]] [--pattern NAME] [--all]`
abbrev pub verify_of : List (List ℕ) → Option VerifyWords
verify_of = behind_name (codes "verify") (asked_by verify_form verify_taken)
