-- The values along a replay, and the checks of its lines.
use Rattle.std.specs.Prelude.{ℕ, ℤ, pos, ◌<◌, ◌≡◌, ◌+ℤ◌, ◌*ℤ◌, List, length, take, slice_get, Some, IsBitSet}
use Rattle.ta_base.specs.Sums.{total}
use Rattle.ta_linear.specs.Numbers.{InRange}
use Rattle.ta_linear.specs.Sums.{StaysInRange}
use Rattle.ta_linear.specs.Values.{point_of}
use Rattle.ta_linear.specs.declared.row.Row.{Row}
use Rattle.ta_automaton.specs.declared.automaton.Automaton.{Automaton}
use Rattle.ta_automaton.specs.declared.condition.Comparison.{Comparison}
use Rattle.ta_automaton.specs.declared.condition.Condition.{Condition}
use Rattle.ta_automaton.specs.declared.rule.Rule.{Rule}
use Rattle.ta_automaton.specs.declared.pattern.Event.{Event}
use Rattle.ta_automaton.specs.declared.pattern.Pattern.{Pattern}
use Rattle.ta_automaton.specs.declared.file.File.{File}
use Rattle.ta_automaton.specs.Places.{location_place, rule_change}
use Rattle.ta_counter.specs.Checks.{AllPass, ConditionPasses}
use Rattle.ta_counter.specs.Configs.{sum_of}
use Rattle.ta_counter.specs.Starts.{StartsAt, MayStart, ProcessesStay}
use Rattle.ta_counter.specs.Steps.{AllGrow, StepIsTaken, before_last}
use Rattle.ta_replay.specs.declared.run.Run.{Run}
use Rattle.ta_replay.specs.declared.run.RunLine.{RunLine}
use Rattle.ta_replay.specs.declared.run.RunLine.TheVariants.{Step, Mark}
use Rattle.ta_replay.specs.Shows.{IsMarked}

-- what a line adds at a place: its rule's change, as often as its factor says
abbrev pub line_change : Automaton → ℕ → RunLine → ℤ
line_change a place (Step rule factor) = factor *ℤ rule_change a (slice_get a.rules rule) place
line_change a place (Mark event) = pos 0

-- the values of all places after some lines: those at the start, and what the lines add
pub record ValuesAfter (a : Automaton) (run : Run) (lines : List RunLine) (values : List ℤ) : Type 0 where
  pub first : List ℤ
  pub starts : StartsAt a run.parameters run.counts first
  pub places : length values ≡ length first
  pub changed : (place : ℕ) → point_of values place ≡ (point_of first place +ℤ total (line_change a place) lines)

-- the locations of a mask are empty
abbrev pub EmptyAt : Automaton → ℕ → List ℤ → Type 0
EmptyAt a mask values = (l : ℕ) → IsBitSet mask l → point_of values (location_place a l) ≡ pos 0

-- an event is not marked so far, and each event that it comes after is
pub record InOrder (p : Pattern) (Marked : ℕ → Type 0) (e : ℕ) : Type 0 where
  pub new : ¬ Marked e
  pub after : (event : Event) (f : ℕ) → slice_get p.events e ≡ Some event → IsBitSet event.after f → Marked f

-- no check of a step refuses, and it leads from values to values
abbrev pub Takes : Automaton → ℕ → ℤ → List ℤ → List ℤ → Type 0
Takes a r factor values after = (rule : Rule) → slice_get a.rules r ≡ Some rule → StepIsTaken a rule factor values after

-- no check of a mark refuses: the event is in order, and its condition holds
abbrev pub MarkPasses : Pattern → (ℕ → Type 0) → List ℤ → ℕ → Type 0
MarkPasses p Marked values e =
    InOrder p Marked e × ((event : Event) → slice_get p.events e ≡ Some event → ConditionPasses (point_of values) event.condition)

-- no check of a line refuses, and it leads from values to values; a step keeps `empty`
abbrev pub LineTakes : Automaton → Pattern → (ℕ → Type 0) → List ℤ → RunLine → List ℤ → Type 0
LineTakes a p Marked values (Step r factor) after = Takes a r factor values after × EmptyAt a p.empty after
LineTakes a p Marked values (Mark e) after = (after ≡ values) × MarkPasses p Marked values e

-- no check of line i refuses at the values that the lines before it lead to
pub record LinePasses (a : Automaton) (p : Pattern) (run : Run) (i : ℕ) (line : RunLine) : Type 0 where
  pub values : List ℤ
  pub after : List ℤ
  pub reached : ValuesAfter a run (take i run.lines) values
  pub takes : LineTakes a p (IsMarked (take i run.lines)) values line after

-- all initial locations of `empty` are empty
abbrev pub NoneFilled : Automaton → Pattern → Run → Type 0
NoneFilled a p run = (j l : ℕ) → slice_get a.initial j ≡ Some l → IsBitSet p.empty l → point_of run.counts j ≡ pos 0

-- the first initial location of `empty` that has processes
pub record FirstFilled (a : Automaton) (p : Pattern) (run : Run) (j : ℕ) : Type 0 where
  pub location : ℕ
  pub at : slice_get a.initial j ≡ Some location
  pub empty : IsBitSet p.empty location
  pub some : ¬ (point_of run.counts j ≡ pos 0)
  pub before : (i l : ℕ) → i < j → slice_get a.initial i ≡ Some l → IsBitSet p.empty l → point_of run.counts i ≡ pos 0

-- each check before the lines passes: the run may start, the start condition holds, and the locations of `empty` are empty
pub record MayTakeLines (a : Automaton) (p : Pattern) (run : Run) : Type 0 where
  pub may_start : MayStart a run.parameters run.counts
  pub first : List ℤ
  pub starts : StartsAt a run.parameters run.counts first
  pub start : ConditionPasses (point_of first) p.start
  pub empty : NoneFilled a p run

-- each row of a condition is evaluated within the range
abbrev pub ConditionStays : (ℕ → ℤ) → Condition → Type 0
ConditionStays point condition =
    AllPass (λ j (comparison : Comparison). AllPass (λ k (row : Row). StaysInRange point row.form.constant row.form.terms) comparison.rows)
    condition.comparisons

-- each row that a mask names is evaluated within the range
abbrev pub MaskedStay : (ℕ → ℤ) → ℕ → List Row → Type 0
MaskedStay point mask rows = AllPass (λ j (row : Row). IsBitSet mask j → StaysInRange point row.form.constant row.form.terms) rows

-- the updates of a step, and its guards, are evaluated within the range
pub record StepStays (a : Automaton) (rule : Rule) (factor : ℤ) (values : List ℤ) : Type 0 where
  pub grow : AllGrow a rule factor values
  pub rise : MaskedStay (point_of values) rule.rise a.rise
  pub fall : MaskedStay (before_last a rule factor values) rule.fall a.fall

-- what a line forms at some values stays in range
abbrev pub LineStays : Automaton → Pattern → List ℤ → RunLine → Type 0
LineStays a p values (Step r factor) = (rule : Rule) → slice_get a.rules r ≡ Some rule → StepStays a rule factor values
LineStays a p values (Mark e) = (event : Event) → slice_get p.events e ≡ Some event → ConditionStays (point_of values) event.condition

-- all numbers in the replay of a run for a pattern stay in range
pub record NumbersStay (a : Automaton) (p : Pattern) (run : Run) : Type 0 where
  pub resilience : ConditionStays (point_of run.parameters) a.resilience
  pub processes : ProcessesStay a run.parameters
  pub sum : InRange (sum_of run.counts)
  pub start : (first : List ℤ) → StartsAt a run.parameters run.counts first → ConditionStays (point_of first) p.start
  pub lines : (i : ℕ) (line : RunLine) (values : List ℤ) → slice_get run.lines i ≡ Some line → ValuesAfter a run (take i run.lines) values
      → LineStays a p values line

-- all numbers in the run's replay stay in range
abbrev pub ReplayStays : File → Run → Type 0
ReplayStays file run = (p : Pattern) → slice_get file.patterns run.pattern ≡ Some p → NumbersStay file.automaton p run
