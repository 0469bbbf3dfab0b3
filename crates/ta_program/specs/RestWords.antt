-- The command-line words of `rest` and of `rest-check`.
use Rattle.std.specs.Prelude.{ℕ, ◌++◌, ◌||◌, Bool, List, [], ◌∷◌, codes, if◌then◌else◌, is_some, not, option_and_then, option_map, Option, None, false}
use Rattle.ta_program.specs.declared.proof_options.ProofOptions.{ProofOptions}
use Rattle.ta_program.specs.SilentNames.{names_of}
use Rattle.ta_program.specs.Values.{file_name_of}
use Rattle.ta_program.specs.VerifyWords.{VerifyWords, verify_form, verify_taken}
use Rattle.ta_program.specs.Words.{Form, Taken, asked_by, behind_name, flag, is_given, plain_of, option_value, valued}

-- what `rest` asks for: what `verify` asks for, and the names that are to be silent, if they are given
pub record RestWords : Type 0 where
  pub verify : VerifyWords
  pub silent : Option (List ℕ)

-- the options of `verify`, and `--silent`
abbrev pub rest_form : Form
rest_form = record { plain = 1; options = verify_form.options ++ valued (codes "--silent") ∷ [] }

-- names may be silent only with moments on demand
abbrev pub quiet_names : Bool → Option (List ℕ) → Option (Option (List ℕ))
quiet_names lazy names = if lazy || not (is_some names) then names_of names else None

abbrev pub rest_taken : Taken → Option RestWords
rest_taken t = option_and_then (λ v. option_map (λ s. record { verify = v; silent = s }) (quiet_names v.budget.lazy (option_value t 7))) (verify_taken t)

-- the request of the words after the command's name
abbrev pub rest_words : List (List ℕ) → Option RestWords
rest_words = asked_by rest_form rest_taken

-- `rest FILE [--nodes N] [--certificate OUT] [--lazy [--wide] [--silent NAMES]] [--json] [--pattern NAME] [--all]`
abbrev pub rest_of : List (List ℕ) → Option RestWords
rest_of = behind_name (codes "rest") (asked_by rest_form rest_taken)

-- what `rest-check` asks for: the names of FILE and of CERT, whether the wide limits are meant, the names that are to be silent, whether
-- all patterns are to be proved, and
-- whether JSON is to be printed
pub record RestCheckWords : Type 0 where
  pub file : List ℕ
  pub other : List ℕ
  pub wide : Bool
  pub silent : Option (List ℕ)
  pub options : ProofOptions

abbrev pub rest_check_form : Form
rest_check_form = record { plain = 2; options = valued (codes "--silent") ∷ flag (codes "--all") ∷ flag (codes "--json") ∷ flag (codes "--wide") ∷ [] }

abbrev pub rest_check_taken : Taken → Option RestCheckWords
rest_check_taken t = option_and_then (λ file. option_and_then (λ other. option_map (λ s.
    record { file = file; other = other; wide = is_given t 3; silent = s; options = record { all = is_given t 1; parameters = false; json = is_given t 2 } })
    (names_of (option_value t 0))) (file_name_of (plain_of t 1))) (file_name_of (plain_of t 0))

-- the request of the words after the command's name
abbrev pub rest_check_words : List (List ℕ) → Option RestCheckWords
rest_check_words = asked_by rest_check_form rest_check_taken

-- `rest-check FILE CERT [--silent NAMES] [--all] [--json] [--wide]`
abbrev pub rest_check_of : List (List ℕ) → Option RestCheckWords
rest_check_of = behind_name (codes "rest-check") (asked_by rest_check_form rest_check_taken)
