-- The command-line words of `search`.
use Rattle.std.specs.Prelude.{ℕ, Bool, List, [], ◌∷◌, codes, option_and_then, option_map, Option}
use Rattle.ta_search.specs.declared.terms.Terms.{Terms}
use Rattle.ta_verdict.specs.declared.budget.Budget.{Budget}
use Rattle.ta_program.specs.Values.{budget_of, filled_of, file_name_of, limits_of, out_of, wide_of}
use Rattle.ta_program.specs.Words.{Form, Taken, asked_by, behind_name, flag, is_given, plain_of, option_value, valued}

-- what they ask for: the names of FILE, of OUT and of OUT2, as far as these are given, the budget for each pattern,
-- whether the wide limits are meant, and whether JSON is to be printed
pub record SearchWords : Type 0 where
  pub file : List ℕ
  pub budget : Budget
  pub wide : Bool
  pub out : Option (List ℕ)
  pub filled : Option (List ℕ)
  pub json : Bool

-- the budget for each pattern, and the limits of FILE and of filled texts
abbrev pub terms_of : SearchWords → Terms
terms_of asked = record { budget = asked.budget; limits = limits_of asked.wide }

abbrev pub search_form : Form
search_form = record {
  plain = 1;
  options = valued (codes "--nodes") ∷ valued (codes "--certificate") ∷ valued (codes "--filled") ∷ flag (codes "--lazy") ∷ flag
      (codes "--json") ∷ flag (codes "--wide") ∷ [];
}

abbrev pub search_taken : Taken → Option SearchWords
search_taken taken =
    option_and_then (λ file.
    option_and_then (λ nodes.
    option_and_then (λ out.
    option_and_then (λ filled.
    option_map (λ wide. record {
      file = file;
      budget = record { nodes = nodes; lazy = is_given taken 3 };
      wide = wide;
      out = out;
      filled = filled;
      json = is_given taken 4;
    })
    (wide_of (is_given taken 5) (is_given taken 3))) (filled_of file out (option_value taken 2))) (out_of file (option_value taken 1)))
    (budget_of (option_value taken 0))) (file_name_of (plain_of taken 0))

-- the request of the words after the command's name
abbrev pub search_words : List (List ℕ) → Option SearchWords
search_words = asked_by search_form search_taken

-- `search FILE [--nodes N] [--certificate OUT] [--filled OUT2] [--lazy [--wide]] [--json]`
abbrev pub search_of : List (List ℕ) → Option SearchWords
search_of = behind_name (codes "search") (asked_by search_form search_taken)
