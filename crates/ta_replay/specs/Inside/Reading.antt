-- What the parts of the reader of runs answer.
use Rattle.std.specs.Prelude.{ℕ, ℤ, ◌+◌, ◌<◌, ◌≡◌, ◌≢◌, ◌⊎◌, List, [], ◌∷◌, ◌++◌, length, map, codes, slice_get, Option, None, Some}
use Rattle.std.specs.List.{AllByRecursion}
use Rattle.ta_automaton.specs.declared.automaton.Automaton.{Automaton}
use Rattle.ta_automaton.specs.declared.pattern.Pattern.{Pattern}
use Rattle.ta_automaton.specs.declared.file.File.{File}
use Rattle.ta_counter.specs.Values.{Value}
use Rattle.ta_replay.specs.declared.run.RunLine.{RunLine}
use Rattle.ta_replay.specs.declared.fault.RunFault.{RunFault}
use Rattle.ta_replay.specs.declared.fault.RunFault.TheVariants as fault
use Rattle.ta_replay.specs.Fits.{LineFits}
use Rattle.ta_replay.specs.RunText.{Slot, name_at, valued_line, value_lines, line_of, head_line, lines_text}
use Rattle.ta_replay.specs.TextFaults.{HasValue, IsValued, FormFor}
use Rattle.ta_base.specs.Bytes.{Avoids, SplitAt}

-- the item with this number has this name
pub record IsNameOf (names : List (List ℕ)) (name : List ℕ) (number : ℕ) : Type 0 where
  pub exists : number < length names
  pub named : name_at names number ≡ name

-- no item has this name
abbrev pub NoNameOf : List (List ℕ) → List ℕ → Type 0
NoNameOf names name = (number : ℕ) → IsNameOf names name number → ⊥

-- the first line names a pattern
pub record HeadRead (file : File) (bytes : List ℕ) (number : ℕ) (behind : List ℕ) : Type 0 where
  pub exists : number < length file.patterns
  pub read : bytes ≡ head_line file number ++ (10 ∷ behind)

-- the first line gives the value that is asked for
pub record ValueRead (word name bytes : List ℕ) (value : ℤ) (behind : List ℕ) : Type 0 where
  pub number : Value value
  pub read : bytes ≡ valued_line word name value ++ (10 ∷ behind)

-- the first line gives no value
pub record NoValue (word bytes : List ℕ) : Type 0 where
  pub line : List ℕ
  pub behind : List ℕ
  pub split : SplitAt 10 bytes line behind
  pub other : HasValue word line → ⊥

-- the first line gives a value of another name
pub record OtherValue (word expected bytes : List ℕ) : Type 0 where
  pub line : List ℕ
  pub behind : List ℕ
  pub name : List ℕ
  pub value : ℤ
  pub next : bytes ≡ line ++ (10 ∷ behind)
  pub is : IsValued word line name value
  pub other : name ≢ expected

-- why the first line does not give the value that is asked for
abbrev pub ValueRefused : List ℕ → List ℕ → List ℕ → ℕ → RunFault → Type 0
ValueRefused word expected bytes number (fault.Line n) = (n ≡ number) × (Avoids 10 bytes ⊎ NoValue word bytes)
ValueRefused word expected bytes number (fault.Name n) = (n ≡ number) × OtherValue word expected bytes
ValueRefused word expected bytes number _ = ⊥

-- the first lines give these values
pub record ValuesBegun (asked : List Slot) (bytes : List ℕ) (values : List ℤ) (behind : List ℕ) : Type 0 where
  pub numbers : AllByRecursion Value values
  pub read : bytes ≡ lines_text (value_lines asked values) ++ behind

-- the first lines give all values that are asked for
pub record ValuesRead (asked : List Slot) (bytes : List ℕ) (values : List ℤ) (behind : List ℕ) : Type 0 where
  pub begun : ValuesBegun asked bytes values behind
  pub all : length values ≡ length asked

-- some values are given, and the next is not
pub record ValuesStopped (asked : List Slot) (bytes : List ℕ) (first : ℕ) (e : RunFault) : Type 0 where
  pub values : List ℤ
  pub rest : List ℕ
  pub slot : Slot
  pub begun : ValuesBegun asked bytes values rest
  pub next : slice_get asked (length values) ≡ Some slot
  pub refused : ValueRefused slot.word slot.name rest (first + length values) e

-- why not all values are given, where the first line has this number
abbrev pub ValuesFault : List Slot → List ℕ → ℕ → RunFault → Type 0
ValuesFault asked bytes first fault.Memory = Unit {0}
ValuesFault asked bytes first e = ValuesStopped asked bytes first e

-- a step or a mark of this pattern, or the end
abbrev pub IsStatement : Automaton → Pattern → List ℕ → Option RunLine → Type 0
IsStatement a p line (Some l) = LineFits a p l × (line ≡ line_of a p l)
IsStatement a p line None = line ≡ codes "end"

-- why a line is neither a step nor a mark of this pattern, nor the end
abbrev pub StatementRefused : Automaton → Pattern → List ℕ → ℕ → RunFault → Type 0
StatementRefused a p line number (fault.Line n) = (n ≡ number) × (FormFor None line → ⊥)
StatementRefused a p line number (fault.Name n) = (n ≡ number) × FormFor None line × ((found : Option RunLine) → IsStatement a p line found → ⊥)
StatementRefused a p line number _ = ⊥

-- the first line is a step or a mark
pub record StepRead (a : Automaton) (p : Pattern) (bytes : List ℕ) (l : RunLine) (behind : List ℕ) : Type 0 where
  pub fits : LineFits a p l
  pub read : bytes ≡ line_of a p l ++ (10 ∷ behind)

-- the first line is unfinished, or may not stand there, or something stands after the end
pub data StepRefused (a : Automaton) (p : Pattern) (bytes : List ℕ) (number : ℕ) (e : RunFault) : Type 0 where
  Unfinished : e ≡ fault.Line number → Avoids 10 bytes → StepRefused a p bytes number e
  Refused : (line behind : List ℕ) → SplitAt 10 bytes line behind → StatementRefused a p line number e → StepRefused a p bytes number e
  Trailing : (behind : List ℕ) → e ≡ fault.Line (number + 1) → bytes ≡ codes "end" ++ (10 ∷ behind) → behind ≢ [] → StepRefused a p bytes number e

-- the first lines are these steps and marks
pub record StepsBegun (a : Automaton) (p : Pattern) (bytes : List ℕ) (lines : List RunLine) (behind : List ℕ) : Type 0 where
  pub fit : AllByRecursion (LineFits a p) lines
  pub read : bytes ≡ lines_text (map (line_of a p) lines) ++ behind

-- the bytes are these steps and marks, and the end
abbrev pub StepsRead : Automaton → Pattern → List ℕ → List RunLine → Type 0
StepsRead a p bytes lines = StepsBegun a p bytes lines (codes "end" ++ (10 ∷ []))

-- some steps and marks are read, and what comes after them is refused
pub record StepsStopped (a : Automaton) (p : Pattern) (bytes : List ℕ) (first : ℕ) (e : RunFault) : Type 0 where
  pub lines : List RunLine
  pub rest : List ℕ
  pub begun : StepsBegun a p bytes lines rest
  pub refused : StepRefused a p rest (first + length lines) e

-- why the bytes are not steps and marks with the end after them
abbrev pub StepsFault : Automaton → Pattern → List ℕ → ℕ → RunFault → Type 0
StepsFault a p bytes first fault.Memory = Unit {0}
StepsFault a p bytes first e = StepsStopped a p bytes first e
