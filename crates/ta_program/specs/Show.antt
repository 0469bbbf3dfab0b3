-- The command `show`: it prints a file as it was understood.
use Rattle.std.specs.Prelude.{ℕ, ◌≡◌, List, ◌++◌, map, codes, Option}
use Rattle.ta_automaton.specs.declared.file.File.{File}
use Rattle.ta_automaton.specs.Runs.{Safe}
use Rattle.ta_cert.specs.Certificates.{pair_of}
use Rattle.ta_cert.specs.declared.line.Order.{Order}
use Rattle.ta_base.specs.declared.limits.Limits.{Limits}
use Rattle.ta_meaning.specs.Reading.{Legal}
use Rattle.ta_shelf.specs.Sink.{with_text}
use Rattle.ta_shelf.specs.Sights.{View, Whole}
use Rattle.ta_report.specs.Show.{show_text}
use Rattle.ta_report.specs.Unknowns.{unknowns_text}
use Rattle.ta_walk.specs.FoundOrders.{FoundOrders}
use Rattle.ta_program.specs.Values.{limits_of}
use Rattle.ta_program.specs.OneFile.{OneFileWords, one_file_words}
use Rattle.ta_program.specs.PatternOption.{EachPicked}
use Rattle.ta_program.specs.Words.{behind_name}

-- the text is that of a file as it was understood, and of the orders that are found of its guards
pub record IsFileText (file : File) (text : List ℕ) : Type 0 where
  pub orders : List Order
  pub found : FoundOrders file.automaton orders
  pub shown : text ≡ show_text file (map pair_of orders)

-- that text is written, and behind it the unknowns of the file's patterns, by name
pub record IsShown (file : File) (written : List ℕ) : Type 0 where
  pub text : List ℕ
  pub is : IsFileText file text
  pub whole : written ≡ text ++ unknowns_text file

-- `show FILE [--wide]`
abbrev pub show_of : List (List ℕ) → Option OneFileWords
show_of = behind_name (codes "show") one_file_words

-- what `show FILE`, with or without `--wide`, prints first if these are FILE's bytes: the text of the file that they mean within some limits.
-- Who has that text need not read what a text means, since no other file has it
pub record ShowPrints (bytes text : List ℕ) : Type 0 where
  pub limits : Limits
  pub file : File
  pub legal : Legal limits bytes file
  pub is : IsFileText file text

-- FILE has bytes that mean a file within the limits that are asked for, and the output gained the text that is printed of them, and behind
-- it the unknowns of the file's
-- patterns by name
pub record ShowHolds (view : View) (asked : OneFileWords) (written written' : Option (List ℕ)) : Type 0 where
  pub bytes : List ℕ
  pub held : view asked.file (Whole bytes)
  pub text : List ℕ
  pub printed : ShowPrints bytes text
  pub within : printed.limits ≡ limits_of asked.wide
  pub wrote : written' ≡ with_text written (text ++ unknowns_text printed.file)

-- the patterns of each file with this text, or the one with the name that is given, occur in no run
abbrev pub EachSafeIn : Option (List ℕ) → List ℕ → Type 0
EachSafeIn given text = (file : File) (orders : List (ℕ × ℕ)) → show_text file orders ≡ text → EachPicked Safe given file

-- the patterns of each file whose text is printed for the bytes under a name, or the one with the name that is given, occur in no run
pub record SafeAsPrinted (view : View) (name : List ℕ) (given : Option (List ℕ)) : Type 0 where
  pub bytes : List ℕ
  pub held : view name (Whole bytes)
  pub safe : (text : List ℕ) → ShowPrints bytes text → EachSafeIn given text
