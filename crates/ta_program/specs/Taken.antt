-- What was taken of the command line, by its texts.
use Rattle.std.specs.Prelude.{ℕ, List, map, option_map, take}
use Rattle.ta_program.specs.declared.one_file.AskedFile.{AskedFile}
use Rattle.ta_program.specs.declared.values.TwoNames.{TwoNames as Names}
use Rattle.ta_program.specs.declared.words.OptionWord.{OptionWord}
use Rattle.ta_program.specs.declared.words.Taken.{Taken as TakenWords}
use Rattle.ta_program.specs.OneFile.{OneFileWords}
use Rattle.ta_program.specs.Values.{TwoNames}
use Rattle.ta_program.specs.Words.{Form, OptionForm, Taken}

abbrev pub taken_of : TakenWords → Taken
taken_of taken = record {
  plain = map (λ w. w.now) (take taken.count taken.plain);
  values = map (λ v. option_map (λ w. w.now) v) taken.values;
  ended = taken.ended;
  awaits = taken.awaits;
}

abbrev pub options_of : List OptionWord → List OptionForm
options_of options = map (λ o. record { word = o.word.now; valued = o.valued }) options

abbrev pub form_of : ℕ → List OptionWord → Form
form_of plain options = record { plain = plain; options = options_of options }

abbrev pub names_seen : Names → TwoNames
names_seen names = record { file = names.file.now; other = names.other.now; wide = names.wide }

abbrev pub file_seen : AskedFile → OneFileWords
file_seen asked = record { file = asked.name.now; wide = asked.wide }
