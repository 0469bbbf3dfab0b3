-- The command `admit`: given values for the unknowns of a schema, it writes their run.
use Rattle.std.specs.Prelude.{ℕ, ◌≡◌, ◌≢◌, ◌≤◌, ◌++◌, List, [], codes, decimal, length, Option, Some, option_and_then, option_map}
use Rattle.ta_base.specs.LimitRows.{narrow}
use Rattle.ta_automaton.specs.declared.file.File.{File}
use Rattle.ta_replay.specs.declared.run.Run.{Run}
use Rattle.ta_replay.specs.RunText.{run_text}
use Rattle.ta_shelf.specs.Put.{Told}
use Rattle.ta_shelf.specs.Sink.{with_text}
use Rattle.ta_shelf.specs.Commands.{Meaning}
use Rattle.ta_shelf.specs.Sights.{View, in_files}
use Rattle.ta_shelf.specs.Stages.{FileMeans, Kind, Writes, after, finds, replies}
use Rattle.ta_smt.specs.declared.fault.AdmitFault.{AdmitFault}
use Rattle.ta_smt.specs.declared.fault.AdmitFault.TheVariants as fault
use Rattle.ta_smt.specs.Admit.{Admits, AdmitFaultOf, AskedWord as Word}
use Rattle.ta_smt.specs.Named.{IsWholeWordOf, Spelling, WholeFaultOf}
use Rattle.ta_program.specs.declared.limits.TheConstants.{RUN, VALUES}
use Rattle.ta_program.specs.Asked.{Asked, ask}
use Rattle.ta_program.specs.Export.{WordHinders}
use Rattle.ta_program.specs.Kinds.{IsFile, ShowsRun, file_kind}
use Rattle.ta_program.specs.Values.{file_name_of}
use Rattle.ta_program.specs.WordAsked.{WordAsked, asked_of}
use Rattle.ta_program.specs.Words.{Taken, behind_name, plain_of, taken_by}

-- why values give no run, in words; the first and the last are never printed for VALUES
abbrev pub admit_fault_text : AdmitFault → List ℕ
admit_fault_text fault.Incomplete = codes "V4 word not complete"
admit_fault_text (fault.Line line) = codes "V5 malformed at line " ++ decimal line
admit_fault_text (fault.Count lines) = codes "V6 " ++ (decimal lines ++ codes " values")
admit_fault_text (fault.Row k) = codes "V7 row " ++ (decimal k ++ codes " is false")
admit_fault_text (fault.Overflow k) = codes "V8 outside 128 bits in row " ++ decimal k
admit_fault_text fault.Run = codes "V9 run outside 128 bits"
admit_fault_text fault.Memory = codes "out of memory"

-- the first error of the bytes as values for a schema; so they have no run
pub record AdmitRefuses (file : File) (word : Word) (bytes : List ℕ) (found : AdmitFault) : Type 0 where
  pub no_memory : found ≢ fault.Memory
  pub first : AdmitFaultOf file word bytes found
  pub gives_no_run : (run : Run) → ¬ Admits file word bytes run

-- VALUES, for a schema of a file: bytes that give a run
abbrev pub values_kind : File → Word → Kind Run AdmitFault
values_kind file word = record {
  limit = VALUES;
  means = Admits file word;
  at_fault = AdmitRefuses file word;
  broken = λ bytes fault. ⊥;
  words =
      admit_fault_text;
}

-- VALUES for a schema of a file is read, and the text of its run is written
abbrev pub values_meaning : List ℕ → File → Word → Meaning
values_meaning values_name file word = after (values_kind file word) values_name [] (λ run. replies [] (Writes 0 (run_text file run)))

-- the file has the complete schema; then VALUES is read
abbrev pub run_meaning : List ℕ → Spelling → List ℕ → File → Meaning
run_meaning file_name spelled values_name file = finds (IsWholeWordOf file spelled) (WordHinders (WholeFaultOf file spelled) file_name) []
    (values_meaning values_name file)

-- FILE and a schema, and the name of VALUES
pub record AdmitAsked : Type 0 where
  pub asked : WordAsked
  pub values : List ℕ

-- FILE is read, then the schema is looked up, then VALUES is read
abbrev pub admit_meaning : AdmitAsked → Meaning
admit_meaning all = after (file_kind narrow) all.asked.file [] (run_meaning all.asked.file all.asked.word all.values)

-- FILE PATTERN START WORD VALUES
abbrev pub all_of : Taken → Option AdmitAsked
all_of taken = option_and_then (λ asked. option_map (λ values. record { asked = asked; values = values }) (file_name_of (plain_of taken 4))) (asked_of taken)

abbrev pub admit_words : List (List ℕ) → Option AdmitAsked
admit_words words = option_and_then all_of (taken_by (record { plain = 5; options = [] }) words)

-- `admit FILE PATTERN START WORD VALUES`
abbrev pub admit_of : List (List ℕ) → Option AdmitAsked
admit_of = behind_name (codes "admit") admit_words

abbrev pub admit_asked : List (List ℕ) → Asked
admit_asked words = ask (λ all. Some (all.asked.file, narrow)) admit_meaning (admit_words words)

-- FILE is legal and has the complete schema, VALUES are values that solve its system without bounds, and the output gained the text of
-- their run: its parameters and start counts are those of the values, it shows the pattern in a replay that stays in range, and it is
-- within the limit of RUN
pub record AdmitHolds (view : View) (all : AdmitAsked) (written written' : Option (List ℕ)) : Type 0 where
  pub file : File
  pub is_file : IsFile narrow view all.asked.file file
  pub word : Word
  pub is_word : IsWholeWordOf file all.asked.word word
  pub run : Run
  pub is_run : FileMeans (values_kind file word) view all.values run
  pub shows : ShowsRun file (run_text file run) run
  pub within : length (run_text file run) ≤ RUN.bytes
  pub wrote : written' ≡ with_text written (run_text file run)

-- known files that have a legal FILE, a complete schema of it and values that give a run
pub record IsAdmitted (told : Told) (all : AdmitAsked) : Type 0 where
  pub file : File
  pub is_file : IsFile narrow (in_files told) all.asked.file file
  pub word : Word
  pub is_word : IsWholeWordOf file all.asked.word word
  pub run : Run
  pub is_run : FileMeans (values_kind file word) (in_files told) all.values run
