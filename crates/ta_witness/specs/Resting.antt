-- The runs of whole nodes at rest: they end at quiet rest.
use Rattle.std.specs.Prelude.{ℕ, ◌≡◌, List, [], ◌∷◌, ◌++◌, length}
use Rattle.ta_automaton.specs.Runs.{At, Config, InScope}
use Rattle.ta_automaton.specs.declared.automaton.Automaton.{Automaton}
use Rattle.ta_automaton.specs.declared.file.File.{File}
use Rattle.ta_automaton.specs.declared.pattern.Pattern.{Pattern}
use Rattle.ta_moments.specs.Refutes.{Node, of_rest}
use Rattle.ta_replay.specs.Shows.{IsFirstConfig, Shows, unit_steps}
use Rattle.ta_replay.specs.declared.run.Run.{Run}
use Rattle.ta_replay.specs.declared.run.RunLine.{RunLine}
use Rattle.ta_replay.specs.declared.run.RunLine.TheVariants.{Mark}
use Rattle.ta_rest.specs.Endings.{ComesLast, IsEnding}
use Rattle.ta_rest.specs.Quiet.{QuietRest, QuietRestOccurs}
use Rattle.ta_witness.specs.MomentRuns.{MomentRunOf, WholeOf}

-- the run shows the pattern that it names only with a last configuration at quiet rest
abbrev pub EndRestsQuietly : File → List ℕ → Run → Type 0
EndRestsQuietly file silent run =
    (shown : Shows file run) (c : Config) → At shown.shows.first shown.shows.later (length (unit_steps run.lines)) c
    → QuietRest file.automaton silent c

-- the pattern occurs in the steps of the run, from a configuration with its parameters and start counts, and the run has come to quiet
-- rest at its end, where the pattern's last event happens
pub record OccursAtQuietRest (a : Automaton) (silent : List ℕ) (p : Pattern) (run : Run) : Type 0 where
  pub first : Config
  pub begins : IsFirstConfig a run first
  pub occurs : QuietRestOccurs a silent p first (unit_steps run.lines)

-- at rest, the run of a whole node whose pattern's last event comes after all others ends at quiet rest, where that event happens; the same
-- holds for each pattern with this ending
abbrev pub MomentRunsRest : Type 0
MomentRunsRest =
    (file : File) → InScope file.automaton
    → (number : ℕ) (silent : List ℕ) (node : Node) (values : List ℕ) (whole : WholeOf file number (of_rest silent) node values)
    → ComesLast whole.pattern
    → (run : Run) → MomentRunOf file number (of_rest silent) node values run
    → EndRestsQuietly file silent run × OccursAtQuietRest file.automaton silent whole.pattern run
    × ((p : Pattern) → IsEnding p whole.pattern → OccursAtQuietRest file.automaton silent p run)

-- at rest, the run of a whole node whose pattern has one event ends with the mark of this event
abbrev pub MomentRunsEndMarked : Type 0
MomentRunsEndMarked =
    (file : File) → InScope file.automaton
    → (number : ℕ) (silent : List ℕ) (node : Node) (values : List ℕ) (whole : WholeOf file number (of_rest silent) node values)
    → ComesLast whole.pattern → length whole.pattern.events ≡ 1
    → (run : Run) → MomentRunOf file number (of_rest silent) node values run
    → (lines : List RunLine) × (run.lines ≡ lines ++ Mark 0 ∷ [])
