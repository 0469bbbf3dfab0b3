-- The command `replay`: a run shows its pattern.
use Rattle.std.specs.Prelude.{ℕ, ◌≡◌, Bool, List, [], slice_get, Option, Some}
use Rattle.ta_automaton.specs.declared.file.File.{File}
use Rattle.ta_automaton.specs.declared.pattern.Pattern.{Pattern}
use Rattle.ta_replay.specs.declared.run.Run.{Run}
use Rattle.ta_replay.specs.Shows.{shown_of}
use Rattle.ta_report.specs.CheckJson.{shown_text}
use Rattle.ta_shelf.specs.Sink.{with_text}
use Rattle.ta_shelf.specs.declared.answer.Answer.{Answer}
use Rattle.ta_shelf.specs.Commands.{Meaning}
use Rattle.ta_shelf.specs.Sights.{View}
use Rattle.ta_shelf.specs.Stages.{FileMeans, Writes, after, replies}
use Rattle.ta_program.specs.Values.{limits_of}
use Rattle.ta_program.specs.Asked.{Asked, ask}
use Rattle.ta_program.specs.Kinds.{IsFile, file_kind, run_kind}
use Rattle.ta_program.specs.CheckWords.{ReplayWords, replay_words}

-- the text says that a run shows its pattern, in JSON or as a line
pub record SaysShown (file : File) (json : Bool) (run : Run) (answer : Answer) : Type 0 where
  pub pattern : Pattern
  pub named : slice_get file.patterns run.pattern ≡ Some pattern
  pub writes : Writes 0 (shown_text json file.automaton.name pattern.name (shown_of run)) answer

-- RUN of a file is read, and the text says that it shows its pattern
abbrev pub shown_meaning : File → Bool → List ℕ → Meaning
shown_meaning file json name = after (run_kind file) name [] (λ run. replies [] (SaysShown file json run))

-- FILE is read, and then RUN
abbrev pub replay_meaning : ReplayWords → Meaning
replay_meaning asked = after (file_kind (limits_of asked.wide)) asked.file [] (λ file. shown_meaning file asked.json asked.other)

abbrev pub replay_asked : List (List ℕ) → Asked
replay_asked words = ask (λ asked. Some (asked.file, limits_of asked.wide)) replay_meaning (replay_words words)

-- FILE is legal, RUN is the text of a run that shows its pattern, and the output gained the text that says so
pub record ReplayHolds (view : View) (asked : ReplayWords) (written written' : Option (List ℕ)) : Type 0 where
  pub file : File
  pub is_file : IsFile (limits_of asked.wide) view asked.file file
  pub run : Run
  pub is_run : FileMeans (run_kind file) view asked.other run
  pub pattern : Pattern
  pub named : slice_get file.patterns run.pattern ≡ Some pattern
  pub wrote : written' ≡ with_text written (shown_text asked.json file.automaton.name pattern.name (shown_of run))
