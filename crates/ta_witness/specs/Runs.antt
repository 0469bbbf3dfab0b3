-- The runs of solutions of systems of rest, for a file's own patterns.
use Rattle.std.specs.Prelude.{ℕ, pos, true, ◌≡◌, if◌then◌else◌, List, [], ◌∷◌, ◌++◌, length, map, reverse, slice_get, Some}
use Rattle.ta_automaton.specs.declared.automaton.Automaton.{Automaton}
use Rattle.ta_automaton.specs.declared.pattern.Pattern.{Pattern}
use Rattle.ta_automaton.specs.declared.file.File.{File}
use Rattle.ta_base.specs.Masks.{has_bit}
use Rattle.ta_automaton.specs.Runs.{At, Config}
use Rattle.ta_encode.specs.declared.encoded.Solution.{Solution}
use Rattle.ta_rest.specs.Faults.{EndingsOf}
use Rattle.ta_rest.specs.Laws.{RestSolved}
use Rattle.ta_rest.specs.Rest.{AtRest, RestOccurs}
use Rattle.ta_rest.specs.declared.rest_file.RestFile.{RestFile}
use Rattle.ta_replay.specs.declared.run.Run.{Run}
use Rattle.ta_replay.specs.declared.run.RunLine.{RunLine}
use Rattle.ta_replay.specs.declared.run.RunLine.TheVariants.{Mark}
use Rattle.ta_replay.specs.Fits.{Fits}
use Rattle.ta_replay.specs.Replays.{ReplayStays}
use Rattle.ta_replay.specs.Shows.{IsFirstConfig, Shows, unit_steps}
use Rattle.ta_witness.specs.Witness.{IsShortRun, WitnessOf}

-- the schema of a solution is complete and legal for its pattern and start set, and its values are natural numbers that solve the schema's
-- system of rest without bounds
pub record IsRestSolution (file : File) (solution : Solution) : Type 0 where
  pub pattern : Pattern
  pub named : slice_get file.patterns solution.pattern ≡ Some pattern
  pub solved : RestSolved file.automaton pattern
  pub start : solved.start ≡ solution.start_mask
  pub word : solved.past ≡ reverse solution.word
  pub values : solution.values ≡ map pos solved.values

-- a run with one more line at its end, a mark of event 0
abbrev pub marked_at_end : Run → Run
marked_at_end run = record { pattern = run.pattern; parameters = run.parameters; counts = run.counts; lines = run.lines ++ Mark 0 ∷ [] }

-- the run of a pattern's ending that belongs to a run of the pattern: with a mark of the event at its end if one was added to the pattern,
-- otherwise the same run
abbrev pub ending_run : ℕ → Run → Run
ending_run added run = if has_bit added run.pattern then marked_at_end run else run

-- if an event was added to the pattern that the run names, its last line is the event's mark
abbrev pub EndsAsAdded : ℕ → Run → Type 0
EndsAsAdded added run = has_bit added run.pattern ≡ true → (lines : List RunLine) × (run.lines ≡ lines ++ Mark 0 ∷ [])

-- the run shows the pattern that it names only with a last configuration at rest
abbrev pub EndRests : File → Run → Type 0
EndRests file run =
    (shown : Shows file run) (c : Config) → At shown.shows.first shown.shows.later (length (unit_steps run.lines)) c
    → AtRest file.automaton c

-- the run fits the file and shows the pattern that it names, its replay stays in range, and its last configuration is at rest
pub record ComesToRest (file : File) (run : Run) : Type 0 where
  pub fits : Fits file run
  pub shows : Shows file run
  pub stays : ReplayStays file run
  pub rests : EndRests file run

-- the pattern occurs in the steps of the run, from a configuration with its parameters and start counts, and the run has come to rest
-- at its end, where the pattern's last event happens
pub record OccursAtRest (a : Automaton) (p : Pattern) (run : Run) : Type 0 where
  pub first : Config
  pub begins : IsFirstConfig a run first
  pub occurs : RestOccurs a p first (unit_steps run.lines)

-- the same for the pattern that the run names
abbrev pub OwnOccurs : File → Run → Type 0
OwnOccurs file run = (p : Pattern) → slice_get file.patterns run.pattern ≡ Some p → OccursAtRest file.automaton p run

-- the run of a solution of an ending's system of rest, without the mark of an added event: it comes to rest as a run of the ending, with
-- this mark, and as one of the file's own pattern, whose last event happens at its end
pub record RestWitnessOf (file ending : File) (added : ℕ) (solution : Solution) (run : Run) : Type 0 where
  pub witness : WitnessOf ending solution (ending_run added run)
  pub of_ending : ComesToRest ending (ending_run added run)
  pub short : IsShortRun ending (ending_run added run)
  pub own : ComesToRest file run
  pub occurs : OwnOccurs file run

-- the same for each file whose patterns have these endings
abbrev pub OwnWitness : RestFile → Solution → Run → Type 0
OwnWitness rest solution run =
    (file : File) → EndingsOf file rest.ending.file rest.added → RestWitnessOf file rest.ending.file rest.added solution run
