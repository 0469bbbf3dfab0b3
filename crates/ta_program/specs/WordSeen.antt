-- Which schema is asked for, by the texts of the command line.
use Rattle.ta_smt.specs.declared.named.NamedWord.{NamedWord}
use Rattle.ta_smt.specs.Admit.{AskedWord, asked}
use Rattle.ta_smt.specs.WordText.{elements_in}
use Rattle.ta_program.specs.declared.spelled.WordAsked.{WordAsked as Words}
use Rattle.ta_program.specs.WordAsked.{WordAsked}

abbrev pub asked_seen : Words → WordAsked
asked_seen words = record { file = words.file.now; word = record { name = words.pattern.now; start = words.start; elements = elements_in words.elements.now } }

abbrev pub word_seen : NamedWord → AskedWord
word_seen word = asked word.pattern word.start_mask word.word
