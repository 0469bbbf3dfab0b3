-- Each text, and each run, has at most one answer.
use Rattle.std.specs.Prelude.{ℕ, ◌≡◌, ◌≢◌, List}
use Rattle.ta_automaton.specs.declared.file.File.{File}
use Rattle.ta_replay.specs.declared.run.Run.{Run}
use Rattle.ta_replay.specs.declared.fault.RunFault.{RunFault}
use Rattle.ta_replay.specs.declared.fault.RunFault.TheVariants.{Memory}
use Rattle.ta_replay.specs.Fits.{Fits}
use Rattle.ta_replay.specs.ReplayFaults.{ReplayFault}
use Rattle.ta_replay.specs.Replays.{ReplayStays}
use Rattle.ta_replay.specs.RunText.{IsRunText}
use Rattle.ta_replay.specs.Shows.{Shows}
use Rattle.ta_replay.specs.TextFaults.{TextFault}

-- a text is that of at most one run, has at most one first error, and never both
pub record TextsAreDetermined : Type 0 where
  pub run : (file : File) (bytes : List ℕ) (run other : Run) → IsRunText file run bytes → IsRunText file other bytes → run ≡ other
  pub fault : (file : File) (bytes : List ℕ) (e f : RunFault) → e ≢ Memory → f ≢ Memory → TextFault file bytes e → TextFault file bytes f → e ≡ f
  pub apart : (file : File) (bytes : List ℕ) (run : Run) (e : RunFault) → IsRunText file run bytes → e ≢ Memory → ¬ TextFault file bytes e

-- a run that fits has at most one first refusal, and none if it shows its pattern in a replay that stays in range
pub record RefusalsAreDetermined : Type 0 where
  pub one : (file : File) (run : Run) (e f : RunFault) → Fits file run → ReplayFault file run e → ReplayFault file run f → e ≡ f
  pub none : (file : File) (run : Run) (e : RunFault) → Fits file run → Shows file run → ReplayStays file run → ¬ ReplayFault file run e
