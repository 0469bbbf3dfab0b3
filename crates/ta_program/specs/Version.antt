-- The command `version`: it prints which program this is.
use Rattle.std.specs.Prelude.{ℕ, ◌≡◌, ◌≤◌, List, [], codes, Option, None, Some, option_map}
use Rattle.ta_shelf.specs.Sink.{with_text}
use Rattle.ta_shelf.specs.Commands.{Meaning}
use Rattle.ta_shelf.specs.Stages.{Writes, replies}
use Rattle.ta_program.specs.Asked.{Asked, ask}
use Rattle.ta_program.specs.Ended.{Ended}
use Rattle.ta_program.specs.Words.{behind_name, taken_by}

-- the version of the program, and the kit that it is proved with
abbrev pub version_text : List ℕ
version_text = codes "tav 0.2.0\nrattle-kit-13f logic dac8208d650f15bf\n"

-- no plain word, and no option
abbrev pub version_words : List (List ℕ) → Option (Unit {0})
version_words words = option_map (λ taken. tt) (taken_by (record { plain = 0; options = [] }) words)

-- `version`
abbrev pub version_of : List (List ℕ) → Option (Unit {0})
version_of = behind_name (codes "version") version_words

-- nothing is read
abbrev pub version_meaning : Meaning
version_meaning = replies [] (Writes 0 version_text)

abbrev pub version_asked : List (List ℕ) → Asked
version_asked words = ask (λ asked. None) (λ asked. version_meaning) (version_words words)

-- `version` ends with status 0, 6 and 7 aside, and then the output gained the version and the kit
abbrev pub VersionPrints : Ended → Type 0
VersionPrints r =
    (asked : Unit {0}) → version_of r.words ≡ Some asked → r.status ≤ 5 → (r.status ≡ 0) × (r.after.written ≡ with_text r.before.written version_text)
