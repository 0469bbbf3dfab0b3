-- The command `check`: which patterns a certificate proves safe.
use Rattle.std.specs.Prelude.{ℕ, ◌≡◌, List, [], Option, Some, false}
use Rattle.ta_automaton.specs.declared.file.File.{File}
use Rattle.ta_shelf.specs.Sink.{with_text}
use Rattle.ta_shelf.specs.Commands.{Meaning}
use Rattle.ta_shelf.specs.Sights.{View}
use Rattle.ta_shelf.specs.Stages.{FileMeans, after, replies}
use Rattle.ta_rest.specs.declared.claim.Claim.TheVariants as claim
use Rattle.ta_check.specs.Subjects.{claiming}
use Rattle.ta_program.specs.Values.{limits_of}
use Rattle.ta_program.specs.Asked.{Asked, ask}
use Rattle.ta_program.specs.CheckWords.{CheckWords, check_words}
use Rattle.ta_program.specs.Kinds.{IsFile, certificate_kind, file_kind}
use Rattle.ta_program.specs.Proofs.{SaysProofs, TellsProofs}

-- CERT of a file is read, and the text says which patterns are proved
abbrev pub proved_meaning : CheckWords → File → Meaning
proved_meaning asked file = after (certificate_kind (claiming claim.Safe file (limits_of asked.wide).line_bytes)) asked.other [] (λ numbers. replies []
    (SaysProofs false file asked.options numbers))

-- FILE is read, and then CERT
abbrev pub check_meaning : CheckWords → Meaning
check_meaning asked = after (file_kind (limits_of asked.wide)) asked.file [] (proved_meaning asked)

abbrev pub check_asked : List (List ℕ) → Asked
check_asked words = ask (λ asked. Some (asked.file, limits_of asked.wide)) check_meaning (check_words words)

-- FILE is legal, CERT is a certificate of it, so each pattern that it proves is safe; the output gained the text that says which patterns
-- these are, and the status is 2 exactly if all are to be proved and aren't
pub record CheckHolds (number : ℕ) (view : View) (asked : CheckWords) (written written' : Option (List ℕ)) : Type 0 where
  pub file : File
  pub is_file : IsFile (limits_of asked.wide) view asked.file file
  pub numbers : List ℕ
  pub certificate : FileMeans (certificate_kind (claiming claim.Safe file (limits_of asked.wide).line_bytes)) view asked.other numbers
  pub text : List ℕ
  pub tells : TellsProofs false file asked.options numbers number text
  pub wrote : written' ≡ with_text written text
