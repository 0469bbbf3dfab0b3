-- What a verdict at rest says of a file's own pattern, by schemas or by moments.
use Rattle.std.specs.Prelude.{ℕ, ◌≡◌, false, List, [], ◌∷◌, slice_get, Some}
use Rattle.ta_automaton.specs.declared.automaton.Automaton.{Automaton}
use Rattle.ta_automaton.specs.declared.file.File.{File}
use Rattle.ta_automaton.specs.declared.pattern.Pattern.{Pattern}
use Rattle.ta_check.specs.Subjects.{claimed_with}
use Rattle.ta_rest.specs.declared.claim.Claim.TheVariants as claim
use Rattle.ta_witness.specs.Resting.{OccursAtQuietRest}
use Rattle.ta_replay.specs.Fits.{Fits}
use Rattle.ta_replay.specs.Replays.{ReplayStays}
use Rattle.ta_replay.specs.Shows.{Shows}
use Rattle.ta_replay.specs.declared.run.Run.{Run}
use Rattle.ta_report.specs.declared.verdict.Verdict.TheVariants.{Safe, Unsafe}
use Rattle.ta_witness.specs.Runs.{OccursAtRest, ending_run}
use Rattle.ta_witness.specs.Witness.{IsShortRun}
use Rattle.ta_verdict.specs.Rest.Budgets.{RestBudget}
use Rattle.ta_verdict.specs.Rest.Verdicts.{RestVerdictHolds}

-- the pattern's last event happens where the run comes to quiet rest; without silent places, to rest
abbrev pub occurs_with : List ℕ → Automaton → Pattern → Run → Type 0
occurs_with [] a p run = OccursAtRest a p run
occurs_with (place ∷ silent) a p run = OccursAtQuietRest a (place ∷ silent) p run

-- the run of a pattern that is called unsafe at rest: as a run of the file's own pattern with this number it shows it in a replay that
-- stays in range, and the pattern's last event happens at rest; as a run of the ending it shows the ending, and is short
pub record SaidAtRest (file ending : File) (added number : ℕ) (silent : List ℕ) (own : Pattern) (run : Run) : Type 0 where
  pub pattern : run.pattern ≡ number
  pub fits : Fits file run
  pub shows : Shows file run
  pub stays : ReplayStays file run
  pub occurs : occurs_with silent file.automaton own run
  pub of_ending : Fits ending (ending_run added run)
  pub ending_shows : Shows ending (ending_run added run)
  pub short : IsShortRun ending (ending_run added run)

-- schemas have no silent places
abbrev pub IsLoudByWords : RestBudget → Type 0
IsLoudByWords budget = budget.lazy ≡ false → budget.silent ≡ []

-- a pattern that is called safe at rest is safe at rest
abbrev pub RestVerdictsClaim : Type 0
RestVerdictsClaim =
    (file ending : File) (added : ℕ) (budget : RestBudget) → IsLoudByWords budget
    → (number : ℕ) (own p : Pattern) (nodes leaves : ℕ) → RestVerdictHolds file ending added budget number own p (Safe nodes leaves)
    → claimed_with claim.RestSafe budget.silent file.automaton own

-- a pattern that is called unsafe at rest has such a run
abbrev pub RestVerdictsShow : Type 0
RestVerdictsShow =
    (file ending : File) (added : ℕ) (budget : RestBudget) → IsLoudByWords budget
    → (number : ℕ) (own p : Pattern) → slice_get file.patterns number ≡ Some own
    → (nodes : ℕ) (run : Run) → RestVerdictHolds file ending added budget number own p (Unsafe nodes run)
    → SaidAtRest file ending added number budget.silent own run
