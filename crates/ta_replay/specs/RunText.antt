-- The text of a run.
use Rattle.std.specs.Prelude.{ℕ, ℤ, ◌≡◌, List, [], ◌∷◌, ◌++◌, map, codes, slice_get, slice_index_or, Option, None, Some}
use Rattle.std.specs.Fmt.{signed_decimal}
use Rattle.ta_automaton.specs.declared.automaton.Automaton.{Automaton}
use Rattle.ta_automaton.specs.declared.pattern.Pattern.{Pattern}
use Rattle.ta_automaton.specs.declared.file.File.{File}
use Rattle.ta_automaton.specs.Patterns.{event_name, pattern_name}
use Rattle.ta_automaton.specs.Shape.{name_of}
use Rattle.ta_replay.specs.declared.run.Run.{Run}
use Rattle.ta_replay.specs.declared.run.RunLine.{RunLine}
use Rattle.ta_replay.specs.declared.run.RunLine.TheVariants.{Step, Mark}
use Rattle.ta_replay.specs.Fits.{Fits}

-- the name with this number
abbrev pub name_at : List (List ℕ) → ℕ → List ℕ
name_at names number = slice_index_or names number []

-- a line of a word, which ends with its space, and a name
abbrev pub named_line : List ℕ → List ℕ → List ℕ
named_line word name = word ++ name

-- a line of a word, a name and a number
abbrev pub valued_line : List ℕ → List ℕ → ℤ → List ℕ
valued_line word name value = word ++ (name ++ (32 ∷ signed_decimal value))

-- a value that a run gives: the word of its line, and its name
pub record Slot : Type 0 where
  pub word : List ℕ
  pub name : List ℕ

abbrev pub parameter_slot : List ℕ → Slot
parameter_slot name = record { word = codes "parameter "; name = name }

abbrev pub start_slot : Automaton → ℕ → Slot
start_slot a location = record { word = codes "start "; name = name_at a.locations location }

abbrev pub parameter_slots : Automaton → List Slot
parameter_slots a = map parameter_slot a.parameters

abbrev pub start_slots : Automaton → List Slot
start_slots a = map (start_slot a) a.initial

-- the values that a run gives: those of the parameters, then the counts at the initial locations, in file order
abbrev pub slots : Automaton → List Slot
slots a = parameter_slots a ++ start_slots a

-- a line for each value
abbrev pub value_lines : List Slot → List ℤ → List (List ℕ)
value_lines [] values = []
value_lines (s ∷ ss) [] = []
value_lines (s ∷ ss) (v ∷ vs) = valued_line s.word s.name v ∷ value_lines ss vs

-- the line of a step or of a mark
abbrev pub line_of : Automaton → Pattern → RunLine → List ℕ
line_of a p (Step rule factor) = valued_line (codes "step ") (name_at (map name_of a.rules) rule) factor
line_of a p (Mark event) = named_line (codes "mark ") (name_at (map event_name p.events) event)

-- the lines of steps and marks, if there is such a pattern
abbrev pub lines_of : Automaton → Option Pattern → List RunLine → List (List ℕ)
lines_of a None lines = []
lines_of a (Some p) lines = map (line_of a p) lines

-- the first line, which names the pattern
abbrev pub head_line : File → ℕ → List ℕ
head_line file number = named_line (codes "run ") (name_at (map pattern_name file.patterns) number)

-- the lines of a run: its pattern, its values, its steps and marks, and the end
abbrev pub run_lines : File → Run → List (List ℕ)
run_lines file run =
    head_line file run.pattern ∷ (value_lines (slots file.automaton) (run.parameters ++ run.counts)
    ++ (lines_of file.automaton (slice_get file.patterns run.pattern) run.lines ++ (codes "end" ∷ [])))

-- lines, each with its line feed
abbrev pub lines_text : List (List ℕ) → List ℕ
lines_text [] = []
lines_text (l ∷ ls) = l ++ (10 ∷ lines_text ls)

-- the text of a run
abbrev pub run_text : File → Run → List ℕ
run_text file run = lines_text (run_lines file run)

-- the bytes are the text of this run, which fits the file
pub record IsRunText (file : File) (run : Run) (bytes : List ℕ) : Type 0 where
  pub fits : Fits file run
  pub text : bytes ≡ run_text file run
