-- Each text is that of a run, or has a first error.
use Rattle.std.specs.Prelude.{ℕ, ◌≢◌, List}
use Rattle.ta_automaton.specs.declared.file.File.{File}
use Rattle.ta_replay.specs.declared.run.Run.{Run}
use Rattle.ta_replay.specs.declared.fault.RunFault.{RunFault}
use Rattle.ta_replay.specs.declared.fault.RunFault.TheVariants as fault
use Rattle.ta_replay.specs.RunText.{IsRunText}
use Rattle.ta_replay.specs.TextFaults.{TextFault}

-- a text is that of a run of the file
abbrev pub HasRunText : File → List ℕ → Type 0
HasRunText file bytes = (run : Run) × IsRunText file run bytes

-- a text has a first error, in the form or in the name of a line
abbrev pub HasTextFault : File → List ℕ → Type 0
HasTextFault file bytes = (e : RunFault) × (e ≢ fault.Memory) × TextFault file bytes e

-- a text is that of a run of the file, or has a first error at a line. (The logic is constructive, so this is stated as "not neither": no
-- test of the specs tells whether some run continues with a line.)
abbrev pub RunTextsHaveAnswers : Type 0
RunTextsHaveAnswers = (file : File) (bytes : List ℕ) → ¬ HasRunText file bytes → ¬ HasTextFault file bytes → ⊥
