-- The command `export`: the constraint system of a schema as an SMT-LIB script.
use Rattle.std.specs.Prelude.{ℕ, ℤ, ◌≡◌, ◌↔◌, ◌++◌, List, [], codes, decimal, Option, Some, option_and_then}
use Rattle.ta_base.specs.LimitRows.{narrow}
use Rattle.ta_automaton.specs.declared.file.File.{File}
use Rattle.ta_shelf.specs.Sink.{with_text}
use Rattle.ta_shelf.specs.declared.answer.Answer.{Answer}
use Rattle.ta_shelf.specs.Commands.{Meaning}
use Rattle.ta_shelf.specs.Lines.{file_line}
use Rattle.ta_shelf.specs.Sights.{View}
use Rattle.ta_shelf.specs.Stages.{Writes, after, finds, replies}
use Rattle.ta_smt.specs.declared.fault.WordFault.{WordFault}
use Rattle.ta_smt.specs.declared.fault.WordFault.TheVariants as fault
use Rattle.ta_smt.specs.Admit.{AskedWord as Word}
use Rattle.ta_smt.specs.Denotes.{Denotes}
use Rattle.ta_smt.specs.Named.{IsWordOf, IsWordText, SolvesAsked, Spelling, WordFaultOf}
use Rattle.ta_program.specs.declared.limits.TheConstants.{VALUES}
use Rattle.ta_program.specs.Asked.{Asked, ask}
use Rattle.ta_program.specs.Kinds.{IsFile, file_kind}
use Rattle.ta_program.specs.WordAsked.{WordAsked, asked_of}
use Rattle.ta_program.specs.Words.{behind_name, taken_by}

-- why a file does not have a schema, in words
abbrev pub word_fault_text : WordFault → List ℕ
word_fault_text fault.Pattern = codes "V1 unknown pattern"
word_fault_text fault.Start = codes "V2 start set"
word_fault_text (fault.Element k) = codes "V3 element " ++ decimal k
word_fault_text fault.Incomplete = codes "V4 word not complete"

-- the schema is refused: the status is that of a file of values, and the line says why, for FILE
pub record WordHinders (Of : WordFault → Type 0) (file_name : List ℕ) (number : ℕ) (line : List ℕ) : Type 0 where
  pub numbered : number ≡ VALUES.number
  pub found : WordFault
  pub is : Of found
  pub said : line ≡ file_line file_name (word_fault_text found)

-- the text is that of the schema's system
pub record SaysSystem (file : File) (word : Word) (answer : Answer) : Type 0 where
  pub text : List ℕ
  pub is : IsWordText file word text
  pub writes : Writes 0 text answer

-- the file has the schema, and the text of its system is written
abbrev pub system_meaning : List ℕ → Spelling → File → Meaning
system_meaning file_name spelled file = finds (IsWordOf file spelled) (WordHinders (WordFaultOf file spelled) file_name) []
    (λ word. replies [] (SaysSystem file word))

-- FILE is read, then the schema is looked up
abbrev pub export_meaning : WordAsked → Meaning
export_meaning asked = after (file_kind narrow) asked.file [] (system_meaning asked.file asked.word)

abbrev pub export_words : List (List ℕ) → Option WordAsked
export_words words = option_and_then asked_of (taken_by (record { plain = 4; options = [] }) words)

-- `export FILE PATTERN START WORD`
abbrev pub export_of : List (List ℕ) → Option WordAsked
export_of = behind_name (codes "export") export_words

abbrev pub export_asked : List (List ℕ) → Asked
export_asked words = ask (λ asked. Some (asked.file, narrow)) export_meaning (export_words words)

-- FILE is legal and has the schema, and the output gained the text of the schema's system without bounds: it denotes exactly those lists of
-- integers that are natural and solve the system
pub record ExportHolds (view : View) (asked : WordAsked) (written written' : Option (List ℕ)) : Type 0 where
  pub file : File
  pub is_file : IsFile narrow view asked.file file
  pub word : Word
  pub is_word : IsWordOf file asked.word word
  pub text : List ℕ
  pub is_text : IsWordText file word text
  pub wrote : written' ≡ with_text written text
  pub denotes : (values : List ℤ) → Denotes text values ↔ SolvesAsked file word values
