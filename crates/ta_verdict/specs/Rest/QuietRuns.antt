-- The runs of whole nodes of moments at rest, for a file's own patterns.
use Rattle.std.specs.Prelude.{ℕ, ◌≡◌, List, slice_get, Some}
use Rattle.ta_automaton.specs.declared.file.File.{File}
use Rattle.ta_automaton.specs.declared.pattern.Pattern.{Pattern}
use Rattle.ta_witness.specs.Resting.{EndRestsQuietly, OccursAtQuietRest}
use Rattle.ta_walk.specs.Found.{Found, RunAt}
use Rattle.ta_moments.specs.Refutes.{of_rest}
use Rattle.ta_replay.specs.Fits.{Fits}
use Rattle.ta_replay.specs.Replays.{ReplayStays}
use Rattle.ta_replay.specs.Shows.{Shows}
use Rattle.ta_replay.specs.declared.run.Run.{Run}
use Rattle.ta_witness.specs.Runs.{ending_run}
use Rattle.ta_witness.specs.Witness.{IsShortRun}

-- the run fits the file and shows the pattern that it names, its replay stays in range, and its last configuration is at quiet rest
pub record ComesToQuietRest (file : File) (silent : List ℕ) (run : Run) : Type 0 where
  pub fits : Fits file run
  pub shows : Shows file run
  pub stays : ReplayStays file run
  pub rests : EndRestsQuietly file silent run

-- the run of a whole node of an ending's moments, without the mark of an added event: it comes to quiet rest as a run of the ending, with
-- this mark, and as one of the file's own pattern, whose last event happens at its end
pub record QuietRunOf (file ending : File) (added number : ℕ) (silent : List ℕ) (found : Found) (run : Run) : Type 0 where
  pub is : RunAt ending number (of_rest silent) found (ending_run added run)
  pub of_ending : ComesToQuietRest ending silent (ending_run added run)
  pub short : IsShortRun ending (ending_run added run)
  pub own : ComesToQuietRest file silent run
  pub occurs : (p : Pattern) → slice_get file.patterns run.pattern ≡ Some p → OccursAtQuietRest file.automaton silent p run
