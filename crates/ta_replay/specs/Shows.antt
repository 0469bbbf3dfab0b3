-- When a run shows its pattern, and so is a counterexample. Source of steps with a factor: Konnov, Lazić, Veith, Widder, POPL 2017
-- (accelerated transitions).
use Rattle.std.specs.Prelude.{ℕ, ◌+◌, ◌-◌, ◌^◌, ◌<◌, ◌≡◌, List, [], ◌∷◌, ◌++◌, length, take, replicate, slice_get, slice_index, unsigned_abs, min, Some}
use Rattle.std.specs.Prelude.{IsBitSet}
use Rattle.ta_automaton.specs.declared.automaton.Automaton.{Automaton}
use Rattle.ta_automaton.specs.declared.pattern.Event.{Event}
use Rattle.ta_automaton.specs.declared.pattern.Pattern.{Pattern}
use Rattle.ta_automaton.specs.declared.file.File.{File}
use Rattle.ta_automaton.specs.Runs as runs
use Rattle.ta_automaton.specs.Runs.{At, HappensAt, Holds, Occurs}
use Rattle.ta_counter.specs.Configs.{naturals}
use Rattle.ta_pattern.specs.Empty.{KeepsEmpty}
use Rattle.ta_replay.specs.declared.run.Run.{Run}
use Rattle.ta_replay.specs.declared.run.Shown.{Shown}
use Rattle.ta_replay.specs.declared.run.RunLine.{RunLine}
use Rattle.ta_replay.specs.declared.run.RunLine.TheVariants.{Step, Mark}

-- the unit steps of lines: each step is its rule, as often as its factor says
abbrev pub unit_steps : List RunLine → List ℕ
unit_steps [] = []
unit_steps (Step rule factor ∷ lines) = replicate (unsigned_abs factor) rule ++ unit_steps lines
unit_steps (Mark event ∷ lines) = unit_steps lines

-- how many unit steps come before line i
abbrev pub steps_before : List RunLine → ℕ → ℕ
steps_before lines i = length (unit_steps (take i lines))

-- line i marks an event
abbrev pub MarksAt : List RunLine → ℕ → ℕ → Type 0
MarksAt lines i event = slice_get lines i ≡ Some (Mark event)

-- some line marks an event
abbrev pub IsMarked : List RunLine → ℕ → Type 0
IsMarked lines event = (i : ℕ) × MarksAt lines i event

-- the run's parameters, and its start counts at the initial locations
pub record IsFirstConfig (a : Automaton) (run : Run) (first : runs.Config) : Type 0 where
  pub parameters : first.parameters ≡ naturals run.parameters
  pub counts : (j l : ℕ) → slice_get a.initial j ≡ Some l → slice_index first.counters l ≡ slice_index (naturals run.counts) j

-- an event has exactly one mark, and its condition holds after the unit steps before that line
pub record MarkedOnce (lines : List RunLine) (first : runs.Config) (later : List runs.Config) (e : ℕ) (event : Event) : Type 0 where
  pub line : ℕ
  pub marked : MarksAt lines line e
  pub once : (i : ℕ) → MarksAt lines i e → i ≡ line
  pub happens : HappensAt first later event (steps_before lines line)

-- the run shows the pattern: from its parameters and start counts, and 0 elsewhere, its unit steps lead on, the pattern's
-- start condition holds at their beginning and `empty` is kept throughout, and the events are marked once and in order
pub record ShowsPattern (a : Automaton) (p : Pattern) (run : Run) : Type 0 where
  pub first : runs.Config
  pub later : List runs.Config
  pub begins : IsFirstConfig a run first
  pub follows : runs.Run a first (unit_steps run.lines) later
  pub start : Holds p.start first
  pub kept_empty : (k : ℕ) (c : runs.Config) → At first later k c → KeepsEmpty p.empty c
  pub marked : (e : ℕ) (event : Event) → slice_get p.events e ≡ Some event → MarkedOnce run.lines first later e event
  pub in_order : (e f i : ℕ) (event : Event) → slice_get p.events e ≡ Some event → IsBitSet event.after f → MarksAt run.lines i e → (j : ℕ) × (j < i)
      × MarksAt run.lines j f

-- the run shows the pattern that it names
pub record Shows (file : File) (run : Run) : Type 0 where
  pub pattern : Pattern
  pub named : slice_get file.patterns run.pattern ≡ Some pattern
  pub shows : ShowsPattern file.automaton pattern run

-- if a run shows its pattern, the pattern occurs in its unit steps
abbrev pub ShownRunsOccur : Type 0
ShownRunsOccur =
    (file : File) (run : Run) (shown : Shows file run)
    → Occurs file.automaton shown.pattern shown.shows.first (unit_steps run.lines)

-- how many unit steps a line stands for: its factor
abbrev pub factor_of : RunLine → ℕ
factor_of (Step rule factor) = unsigned_abs factor
factor_of (Mark event) = 0

-- the sum of the factors
abbrev pub factors_sum : List RunLine → ℕ
factors_sum [] = 0
factors_sum (line ∷ lines) = factor_of line + factors_sum lines

-- the number of marks
abbrev pub marks_count : List RunLine → ℕ
marks_count [] = 0
marks_count (Step rule factor ∷ lines) = marks_count lines
marks_count (Mark event ∷ lines) = 1 + marks_count lines

-- the sum of the factors, or 2^64 - 1 if it is larger, and the number of marks
abbrev pub shown_of : Run → Shown
shown_of run = record { steps = min (factors_sum run.lines) (2 ^ 64 - 1); marks = marks_count run.lines }
