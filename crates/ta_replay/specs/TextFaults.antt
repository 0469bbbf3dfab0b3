-- The first error of a text that is not a run of a file.
use Rattle.std.specs.Prelude.{ℕ, ℤ, zero, suc, pos, ◌+◌, ◌≡◌, ◌≢◌, ◌≤ℤ◌, ◌⊎◌, List, [], ◌∷◌, ◌++◌, length, codes, slice_get, Option, None, Some}
use Rattle.ta_automaton.specs.declared.automaton.Automaton.{Automaton}
use Rattle.ta_automaton.specs.declared.file.File.{File}
use Rattle.ta_counter.specs.Values.{Value}
use Rattle.ta_replay.specs.declared.run.Run.{Run}
use Rattle.ta_replay.specs.declared.fault.RunFault.{RunFault}
use Rattle.ta_replay.specs.declared.fault.RunFault.TheVariants as fault
use Rattle.ta_replay.specs.Fits.{Fits}
use Rattle.ta_replay.specs.RunText.{Slot, slots, named_line, valued_line, run_lines, lines_text}
use Rattle.ta_base.specs.Bytes.{Avoids, IsWord}

-- a line of this word and a name
pub record IsNamedLine (word line name : List ℕ) : Type 0 where
  pub spelled : IsWord name
  pub text : line ≡ named_line word name

-- a line of this word, a name and a natural number below 2^127
pub record IsValued (word line name : List ℕ) (value : ℤ) : Type 0 where
  pub spelled : IsWord name
  pub number : Value value
  pub text : line ≡ valued_line word name value

abbrev pub HasName : List ℕ → List ℕ → Type 0
HasName word line = (name : List ℕ) × IsNamedLine word line name

abbrev pub HasValue : List ℕ → List ℕ → Type 0
HasValue word line = (name : List ℕ) × (value : ℤ) × IsValued word line name value

-- a step has a factor of at least 1
abbrev pub HasFactor : List ℕ → List ℕ → Type 0
HasFactor word line = (name : List ℕ) × (factor : ℤ) × IsValued word line name factor × (pos 1 ≤ℤ factor)

-- the form of a line for a value, and the forms of the lines after the values
abbrev pub FormFor : Option Slot → List ℕ → Type 0
FormFor (Some slot) line = HasValue slot.word line
FormFor None line = HasFactor (codes "step ") line ⊎ (HasName (codes "mark ") line ⊎ (line ≡ codes "end"))

-- the line is of a form that may come after this many lines
abbrev pub FormAt : Automaton → ℕ → List ℕ → Type 0
FormAt a zero line = HasName (codes "run ") line
FormAt a (suc before) line = FormFor (slice_get (slots a) before) line

-- the lines are a whole run
pub record IsWholeRun (file : File) (ls : List (List ℕ)) : Type 0 where
  pub run : Run
  pub fits : Fits file run
  pub lines : run_lines file run ≡ ls

-- a run begins with the lines, and has more
pub record IsFront (file : File) (ls : List (List ℕ)) : Type 0 where
  pub run : Run
  pub next : List ℕ
  pub later : List (List ℕ)
  pub fits : Fits file run
  pub lines : run_lines file run ≡ ls ++ (next ∷ later)

-- no line so far, or lines with which a run begins and after which it has more
abbrev pub LinesGoOn : File → List (List ℕ) → Type 0
LinesGoOn file ls = (ls ≡ []) ⊎ IsFront file ls

-- something comes after the end
pub record IsTrailingRun (file : File) (ls : List (List ℕ)) (rest : List ℕ) : Type 0 where
  pub whole : IsWholeRun file ls
  pub some : rest ≢ []

-- the next line is unfinished or absent
pub record IsUnfinishedRun (file : File) (ls : List (List ℕ)) (rest : List ℕ) : Type 0 where
  pub begun : LinesGoOn file ls
  pub no_feed : Avoids 10 rest

-- the next line has a form that may not stand there
pub record IsMisformed (file : File) (ls : List (List ℕ)) (rest : List ℕ) : Type 0 where
  pub line : List ℕ
  pub behind : List ℕ
  pub begun : LinesGoOn file ls
  pub next : rest ≡ line ++ (10 ∷ behind)
  pub no_feed : Avoids 10 line
  pub other : FormAt file.automaton (length ls) line → ⊥

-- N1: the first error is the form of this line, or its place
pub record IsMalformedRun (file : File) (bytes : List ℕ) (number : ℕ) : Type 0 where
  pub ls : List (List ℕ)
  pub rest : List ℕ
  pub text : bytes ≡ lines_text ls ++ rest
  pub fault : IsTrailingRun file ls rest ⊎ (IsUnfinishedRun file ls rest ⊎ IsMisformed file ls rest)
  pub place : number ≡ length ls + 1

-- N2: the first error is that no run continues with this line, although its form may stand there
pub record IsMisnamed (file : File) (bytes : List ℕ) (number : ℕ) : Type 0 where
  pub ls : List (List ℕ)
  pub line : List ℕ
  pub behind : List ℕ
  pub text : bytes ≡ lines_text ls ++ (line ++ (10 ∷ behind))
  pub begun : LinesGoOn file ls
  pub form : FormAt file.automaton (length ls) line
  pub unnamed : (run : Run) (later : List (List ℕ)) → Fits file run → run_lines file run ≡ ls ++ (line ∷ later) → ⊥
  pub place : number ≡ length ls + 1

-- why a text is refused: for the form or for the name of a line; "out of memory" is always allowed
abbrev pub TextFault : File → List ℕ → RunFault → Type 0
TextFault file bytes (fault.Line number) = IsMalformedRun file bytes number
TextFault file bytes (fault.Name number) = IsMisnamed file bytes number
TextFault file bytes fault.Memory = Unit {0}
TextFault file bytes _ = ⊥
