-- The command-line words of `check` and of `replay`.
use Rattle.std.specs.Prelude.{Bool, false, List, [], ◌∷◌, ℕ, codes, option_and_then, option_map, Option}
use Rattle.ta_program.specs.declared.proof_options.ProofOptions.{ProofOptions}
use Rattle.ta_program.specs.Values.{file_name_of}
use Rattle.ta_program.specs.Words.{Form, Taken, asked_by, behind_name, flag, is_given, plain_of}

-- what `check` asks for: the names of FILE and of CERT, whether the wide limits are meant, whether all patterns are to be proved, and what is to be printed
pub record CheckWords : Type 0 where
  pub file : List ℕ
  pub other : List ℕ
  pub wide : Bool
  pub options : ProofOptions

abbrev pub check_form : Form
check_form = record { plain = 2; options = flag (codes "--all") ∷ flag (codes "--parameters") ∷ flag (codes "--json") ∷ flag (codes "--wide") ∷ [] }

abbrev pub check_taken : Taken → Option CheckWords
check_taken t = option_and_then (λ file. option_map (λ other.
    record { file = file; other = other; wide = is_given t 3; options = record { all = is_given t 0; parameters = is_given t 1; json = is_given t 2 } })
    (file_name_of (plain_of t 1))) (file_name_of (plain_of t 0))

-- the request of the words after the command's name
abbrev pub check_words : List (List ℕ) → Option CheckWords
check_words = asked_by check_form check_taken

-- `check FILE CERT [--all] [--parameters] [--json] [--wide]`
abbrev pub check_of : List (List ℕ) → Option CheckWords
check_of = behind_name (codes "check") (asked_by check_form check_taken)

-- no option
abbrev pub no_options : ProofOptions
no_options = record { all = false; parameters = false; json = false }

-- what `replay` asks for: the names of FILE and of RUN, whether the wide limits are meant, and whether JSON is to be printed
pub record ReplayWords : Type 0 where
  pub file : List ℕ
  pub other : List ℕ
  pub wide : Bool
  pub json : Bool

abbrev pub replay_form : Form
replay_form = record { plain = 2; options = flag (codes "--json") ∷ flag (codes "--wide") ∷ [] }

abbrev pub replay_taken : Taken → Option ReplayWords
replay_taken taken = option_and_then
    (λ file. option_map (λ other. record { file = file; other = other; wide = is_given taken 1; json = is_given taken 0 })
    (file_name_of (plain_of taken 1))) (file_name_of (plain_of taken 0))

-- the request of the words after the command's name
abbrev pub replay_words : List (List ℕ) → Option ReplayWords
replay_words = asked_by replay_form replay_taken

-- `replay FILE RUN [--json] [--wide]`
abbrev pub replay_of : List (List ℕ) → Option ReplayWords
replay_of = behind_name (codes "replay") (asked_by replay_form replay_taken)
