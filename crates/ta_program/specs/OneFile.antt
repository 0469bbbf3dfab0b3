-- Commands that read FILE alone, and print a text of the file that it means.
use Rattle.std.specs.Prelude.{ℕ, Bool, List, [], ◌∷◌, codes, Option, Some, option_map}
use Rattle.ta_base.specs.declared.limits.Limits.{Limits}
use Rattle.ta_automaton.specs.declared.file.File.{File}
use Rattle.ta_shelf.specs.declared.answer.Answer.{Answer}
use Rattle.ta_shelf.specs.Commands.{Meaning}
use Rattle.ta_shelf.specs.Stages.{Writes, after, replies}
use Rattle.ta_program.specs.Asked.{Asked, ask}
use Rattle.ta_program.specs.Kinds.{file_kind}
use Rattle.ta_program.specs.Values.{file_name_of, limits_of}
use Rattle.ta_program.specs.Words.{Form, Taken, asked_by, flag, is_given, plain_of}

-- one of these texts is written, with status 0
pub record SaysText (Such : List ℕ → Type 0) (answer : Answer) : Type 0 where
  pub written : List ℕ
  pub is : Such written
  pub writes : Writes 0 written answer

-- nothing more is read, and one of these texts is written
abbrev pub printing : (List ℕ → Type 0) → Meaning
printing Such = replies [] (SaysText Such)

-- what they ask for: the name of FILE, and whether the wide limits are meant
pub record OneFileWords : Type 0 where
  pub file : List ℕ
  pub wide : Bool

-- FILE is read, and one of the texts is written that belong to its limits and to the file that it means
abbrev pub one_file_meaning : (Limits → File → List ℕ → Type 0) → OneFileWords → Meaning
one_file_meaning text asked = after (file_kind (limits_of asked.wide)) asked.file [] (λ file. printing (text (limits_of asked.wide) file))

abbrev pub one_file_form : Form
one_file_form = record { plain = 1; options = flag (codes "--wide") ∷ [] }

abbrev pub one_file_taken : Taken → Option OneFileWords
one_file_taken taken = option_map (λ file. record { file = file; wide = is_given taken 0 }) (file_name_of (plain_of taken 0))

-- one plain word that is the name of a file, and `--wide` or no option
abbrev pub one_file_words : List (List ℕ) → Option OneFileWords
one_file_words = asked_by one_file_form one_file_taken

-- what the words after the command's name ask for
abbrev pub one_file_asked : (Limits → File → List ℕ → Type 0) → List (List ℕ) → Asked
one_file_asked text words = ask (λ asked. Some (asked.file, limits_of asked.wide)) (one_file_meaning text) (one_file_words words)
