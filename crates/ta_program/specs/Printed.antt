-- What the outputs of commands say of a safe, of an unsafe and of a proved pattern.
use Rattle.std.specs.Prelude.{ℕ, ◌≡◌, ◌≤◌, Bool, List, length, slice_get, Option, Some}
use Rattle.ta_automaton.specs.declared.automaton.Automaton.{Automaton}
use Rattle.ta_automaton.specs.declared.file.File.{File}
use Rattle.ta_automaton.specs.declared.pattern.Pattern.{Pattern}
use Rattle.ta_automaton.specs.Runs as runs
use Rattle.ta_replay.specs.declared.run.Run.{Run}
use Rattle.ta_replay.specs.Shows.{IsFirstConfig, unit_steps}
use Rattle.ta_report.specs.CheckJson.{TellsProved}
use Rattle.ta_report.specs.Telling.{TellsRun, TellsSafe, TellsUnsafe}
use Rattle.ta_shelf.specs.Sink.{with_text}
use Rattle.ta_shelf.specs.Sights.{View}
use Rattle.ta_program.specs.declared.limits.TheConstants.{RUN}
use Rattle.ta_program.specs.Headline.{HoldsFile}
use Rattle.ta_program.specs.Kinds.{ShowsRun}

-- how a report says that the pattern with this name is unsafe, and that bytes are the text of its run
pub record Telling : Type 1 where
  pub unsafe_ : (name text : List ℕ) → Type 0
  pub run : (name bytes text : List ℕ) → Type 0

-- a report, or that of `rest`, as a line of JSON or as lines
abbrev pub telling_of : (rest json : Bool) → Telling
telling_of rest json = record { unsafe_ = TellsUnsafe rest json; run = TellsRun rest json }

-- what a text gives as the run of the pattern with this number is the text of a run that shows it, within the limit of RUN; from a first
-- configuration with its parameters and start counts the pattern happens in its steps: it occurs, or it occurs and the run comes to rest
pub record UnsafePrinted (Happens : Automaton → Pattern → runs.Config → List ℕ → Type 0) (telling : Telling) (file : File) (number : ℕ) (p : Pattern)
    (text : List ℕ) : Type 0 where
  pub bytes : List ℕ
  pub stands : telling.run p.name bytes text
  pub only : (other : List ℕ) → telling.run p.name other text → other ≡ bytes
  pub run : Run
  pub of : run.pattern ≡ number
  pub shows : ShowsRun file bytes run
  pub within : length bytes ≤ RUN.bytes
  pub first : runs.Config
  pub begins : IsFirstConfig file.automaton run first
  pub happens : Happens file.automaton p first (unit_steps run.lines)

-- the bytes under a name mean a file, and each pattern of it that the output calls unsafe is unsafe
pub record EachPrintedUnsafe (Happens : Automaton → Pattern → runs.Config → List ℕ → Type 0) (telling : Telling) (view : View) (name : List ℕ)
    (written written' : Option (List ℕ)) : Type 0 where
  pub file : File
  pub holds : HoldsFile view name file
  pub text : List ℕ
  pub gained : written' ≡ with_text written text
  pub unsafe_ : (number : ℕ) (p : Pattern) → slice_get file.patterns number ≡ Some p → telling.unsafe_ p.name text
      → UnsafePrinted Happens telling file number p text

-- the bytes under a name mean a file, and a fact holds of each pattern of it that the output calls safe, in a report or in that of `rest`
pub record EachToldSafe (Fact : Automaton → Pattern → Type 0) (rest json : Bool) (view : View) (name : List ℕ) (written written' : Option (List ℕ)) : Type 0
  where
    pub file : File
    pub holds : HoldsFile view name file
    pub text : List ℕ
    pub gained : written' ≡ with_text written text
    pub safe : (number : ℕ) (p : Pattern) → slice_get file.patterns number ≡ Some p → TellsSafe rest json p.name text → Fact file.automaton p

-- the bytes under a name mean a file, and a fact holds of each pattern of it that the output calls proved, or proved at rest
pub record EachToldProved (Fact : Automaton → Pattern → Type 0) (json rest : Bool) (view : View) (name : List ℕ) (written written' : Option (List ℕ)) : Type 0
  where
    pub file : File
    pub holds : HoldsFile view name file
    pub text : List ℕ
    pub gained : written' ≡ with_text written text
    pub holds_of : (number : ℕ) (p : Pattern) → slice_get file.patterns number ≡ Some p → TellsProved json rest p.name text → Fact file.automaton p
