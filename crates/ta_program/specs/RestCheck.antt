-- The command `rest-check`: which patterns a certificate proves safe at rest.
use Rattle.std.specs.Prelude.{ℕ, ◌≡◌, List, [], Option, true}
use Rattle.ta_automaton.specs.declared.file.File.{File}
use Rattle.ta_check.specs.Certificate.{AllQuietRestSafe}
use Rattle.ta_check.specs.Subjects.{claiming_with}
use Rattle.ta_rest.specs.declared.claim.Claim.TheVariants.{RestSafe}
use Rattle.ta_shelf.specs.Sink.{with_text}
use Rattle.ta_shelf.specs.Commands.{Meaning}
use Rattle.ta_shelf.specs.Sights.{View}
use Rattle.ta_shelf.specs.Stages.{FileMeans, after, replies}
use Rattle.ta_program.specs.Values.{limits_of}
use Rattle.ta_program.specs.Asked.{Asked, ask_where}
use Rattle.ta_program.specs.Kinds.{IsFile, certificate_kind}
use Rattle.ta_program.specs.Proofs.{SaysProofs, TellsProofs}
use Rattle.ta_program.specs.RestEnds.{FileEndings, IsEnds, with_ends}
use Rattle.ta_program.specs.RestWords.{RestCheckWords, rest_check_words}
use Rattle.ta_program.specs.SilentNames.{AreSilent, LegalSilently, with_silent}

-- CERT is read for the endings of a file with these silent places, and the text says for which of its patterns it proves that no run comes
-- to rest so
abbrev pub rest_proved_meaning : RestCheckWords → File → FileEndings → List ℕ → Meaning
rest_proved_meaning asked file ends silent = after (certificate_kind (claiming_with RestSafe ends.ending silent (limits_of asked.wide).line_bytes)) asked.other
    []
    (λ numbers. replies [] (SaysProofs true file asked.options numbers))

-- the places of the names are found, and then CERT is read
abbrev pub quietly_meaning : RestCheckWords → File → FileEndings → Meaning
quietly_meaning asked file ends = with_silent asked.file asked.silent [] file (rest_proved_meaning asked file ends)

-- FILE is read, its endings are computed, and then the silent places and CERT follow
abbrev pub rest_check_meaning : RestCheckWords → Meaning
rest_check_meaning asked = with_ends (limits_of asked.wide) asked.file [] (quietly_meaning asked)

abbrev pub rest_check_asked : List (List ℕ) → Asked
rest_check_asked words = ask_where (λ asked. LegalSilently (limits_of asked.wide) asked.file asked.silent) rest_check_meaning (rest_check_words words)

-- FILE is legal and its cycles are self-loops, the names may be silent in it, CERT is a certificate for its endings with their places
-- silent; so no run comes to quiet rest where the last event of one of FILE's own patterns that CERT proves happens; the output gained
-- the text that says which patterns these are, and the status is 2 exactly if all are to be proved and aren't
pub record RestCheckHolds (number : ℕ) (view : View) (asked : RestCheckWords) (written written' : Option (List ℕ)) : Type 0 where
  pub file : File
  pub is_file : IsFile (limits_of asked.wide) view asked.file file
  pub ends : FileEndings
  pub are_ends : IsEnds file ends
  pub silent : List ℕ
  pub are_silent : AreSilent file.automaton asked.silent silent
  pub numbers : List ℕ
  pub certificate : FileMeans (certificate_kind (claiming_with RestSafe ends.ending silent (limits_of asked.wide).line_bytes)) view asked.other numbers
  pub safe : AllQuietRestSafe file silent numbers
  pub text : List ℕ
  pub tells : TellsProofs true file asked.options numbers number text
  pub wrote : written' ≡ with_text written text
