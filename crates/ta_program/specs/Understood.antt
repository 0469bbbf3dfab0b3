-- The short headline: what a run of the program says of the file that `show` prints. It names neither the grammar nor what a text means:
-- whoever has read what `tav show FILE` prints knows of which file the other commands speak.
use Rattle.std.specs.Prelude.{ℕ, ◌≡◌, ◌≤◌, false, List, [], ◌∷◌, ◌++◌, codes, slice_get, None, Some}
use Rattle.std.specs.List.{AllByRecursion}
use Rattle.ta_automaton.specs.declared.automaton.Automaton.{Automaton}
use Rattle.ta_automaton.specs.declared.file.File.{File}
use Rattle.ta_automaton.specs.declared.pattern.Pattern.{Pattern}
use Rattle.ta_automaton.specs.Runs as runs
use Rattle.ta_rest.specs.Fair.{FairlySafe}
use Rattle.ta_replay.specs.declared.run.Run.{Run}
use Rattle.ta_replay.specs.RunText.{IsRunText}
use Rattle.ta_replay.specs.Shows.{IsFirstConfig, unit_steps}
use Rattle.ta_report.specs.Printed.{HasLine, told_of}
use Rattle.ta_rest.specs.Rest.{RestSafe}
use Rattle.ta_shelf.specs.Calls.{Call, Event, Spells, reads}
use Rattle.ta_shelf.specs.Put.{Told}
use Rattle.ta_shelf.specs.Sink.{with_text}
use Rattle.ta_report.specs.Show.{show_text}
use Rattle.ta_program.specs.Ended.{Ended}
use Rattle.ta_program.specs.Show.{ShowPrints}
use Rattle.ta_program.specs.Words.{behind, is_dashed}

-- the words are a command's name, behind it the name of FILE, which is no option, and then more: options, or names of other files
pub record Asks (r : Ended) (command name : List ℕ) (more : List (List ℕ)) : Type 0 where
  pub are : r.words ≡ command ∷ name ∷ more
  pub plain : is_dashed name ≡ false

-- the run read a file whole: among what its log gained are calls, one behind the other, that gave just these bytes of the file; and where
-- the files are told, this one has these bytes
pub record ReadsWhole (r : Ended) (name bytes : List ℕ) : Type 0 where
  pub front : List Event
  pub those : List Call
  pub behind : List Event
  pub logged : r.after.calls ≡ r.before.calls ++ (front ++ (reads those ++ behind))
  pub gave : Spells name those bytes
  pub held : (told : Told) → r.before.files ≡ Some told → told name ≡ Some bytes

-- a word does not begin with `--pattern`, so it asks for no pattern alone
abbrev pub IsOfAll : List ℕ → Type 0
IsOfAll word = behind (codes "--pattern") word ≡ None

-- FILE was read, and the output gained what `show` prints of its bytes, which is the text of a file; and behind it more
pub record Prints (r : Ended) (name : List ℕ) : Type 0 where
  pub bytes : List ℕ
  pub read : ReadsWhole r name bytes
  pub text : List ℕ
  pub more : List ℕ
  pub gained : r.after.written ≡ with_text r.before.written (text ++ more)
  pub printed : ShowPrints bytes text
  pub file : File
  pub orders : List (ℕ × ℕ)
  pub is : text ≡ show_text file orders

-- FILE was read, the output gained a text, and each file that `show` prints of FILE's bytes is such
pub record Says (Such : List ℕ → File → Type 0) (r : Ended) (name : List ℕ) : Type 0 where
  pub bytes : List ℕ
  pub read : ReadsWhole r name bytes
  pub text : List ℕ
  pub gained : r.after.written ≡ with_text r.before.written text
  pub such : (shown : List ℕ) (file : File) (orders : List (ℕ × ℕ)) → ShowPrints bytes shown → show_text file orders ≡ shown → Such text file

-- a fact holds of each pattern of a file whose line with this word stands in a text
abbrev pub EachLine : (Automaton → Pattern → Type 0) → List ℕ → List ℕ → File → Type 0
EachLine Fact word text file = (number : ℕ) (p : Pattern) → slice_get file.patterns number ≡ Some p → HasLine (told_of p.name word) text → Fact file.automaton p

-- where a command ends with at most this status, so it is of FILE
abbrev pub LinesHold : Ended → List ℕ → ℕ → List ℕ → (Automaton → Pattern → Type 0) → Type 0
LinesHold r command most word Fact = (name : List ℕ) (more : List (List ℕ)) → Asks r command name more → r.status ≤ most → Says (EachLine Fact word) r name

-- the pattern occurs in some run
abbrev pub OccursSomewhere : Automaton → Pattern → Type 0
OccursSomewhere a p = (first : runs.Config) × (rules : List ℕ) × runs.Occurs a p first rules

-- it comes to rest in no run where its last event happens, and it occurs for ever in no fair run without end
abbrev pub NeverRests : Automaton → Pattern → Type 0
NeverRests a p = RestSafe a p × FairlySafe a [] p

-- RUN was read, and its bytes are the text of a run of the file: from a first configuration with the run's parameters and start counts the
-- pattern that the run names occurs in its steps
pub record RunOccurs (r : Ended) (run_name : List ℕ) (file : File) : Type 0 where
  pub bytes : List ℕ
  pub read : ReadsWhole r run_name bytes
  pub run : Run
  pub is : IsRunText file run bytes
  pub pattern : Pattern
  pub named : slice_get file.patterns run.pattern ≡ Some pattern
  pub first : runs.Config
  pub begins : IsFirstConfig file.automaton run first
  pub occurs : runs.Occurs file.automaton pattern first (unit_steps run.lines)

-- what each command says of the file that `show` prints, with these statuses
pub record Understood (r : Ended) : Type 0 where
  pub shows : (name : List ℕ) (more : List (List ℕ)) → Asks r (codes "show") name more → r.status ≡ 0 → Prints r name
  pub safe : (name : List ℕ) (more : List (List ℕ)) → Asks r (codes "verify") name more → AllByRecursion IsOfAll more → r.status ≡ 0
      → Says (λ text file. AllByRecursion (runs.Safe file.automaton) file.patterns) r name
  pub safe_lines : LinesHold r (codes "verify") 2 (codes "safe, ") runs.Safe
  pub unsafe_lines : LinesHold r (codes "verify") 2 (codes "unsafe, ") OccursSomewhere
  pub proved : LinesHold r (codes "check") 2 (codes "proved") runs.Safe
  pub rest_safe : LinesHold r (codes "rest") 2 (codes "rest safe, ") NeverRests
  pub rest_proved : LinesHold r (codes "rest-check") 2 (codes "rest proved") NeverRests
  pub shown : (name run_name : List ℕ) → Asks r (codes "replay") name (run_name ∷ []) → r.status ≡ 0 → Says (λ text file. RunOccurs r run_name file) r name
