-- The first check of a replay that refuses the run.
use Rattle.std.specs.Prelude.{ℕ, ℤ, ◌+◌, ◌<◌, ◌≡◌, ◌⊎◌, List, length, take, slice_get, Some}
use Rattle.ta_linear.specs.Values.{point_of}
use Rattle.ta_linear.specs.declared.row.Row.{Row}
use Rattle.ta_automaton.specs.declared.automaton.Automaton.{Automaton}
use Rattle.ta_automaton.specs.declared.rule.Rule.{Rule}
use Rattle.ta_automaton.specs.declared.pattern.Event as events
use Rattle.ta_automaton.specs.declared.pattern.Pattern.{Pattern}
use Rattle.ta_automaton.specs.declared.file.File.{File}
use Rattle.ta_counter.specs.declared.config.Config.{Config}
use Rattle.ta_counter.specs.declared.fault.StepFault.{StepFault}
use Rattle.ta_counter.specs.declared.fault.StepFault.TheVariants as step
use Rattle.ta_counter.specs.declared.fault.StartFault.TheVariants as start
use Rattle.ta_counter.specs.Checks.{RowFails, RowOutOfRange, ConditionPasses, ConditionStopsAt}
use Rattle.ta_counter.specs.Configs.{IsOf}
use Rattle.ta_counter.specs.Starts.{StartsAt, MayStart, StartFails}
use Rattle.ta_counter.specs.Steps.{StepFails}
use Rattle.ta_replay.specs.declared.run.Run.{Run}
use Rattle.ta_replay.specs.declared.run.RunLine.{RunLine}
use Rattle.ta_replay.specs.declared.run.RunLine.TheVariants.{Step, Mark}
use Rattle.ta_replay.specs.declared.fault.RunFault.{RunFault}
use Rattle.ta_replay.specs.declared.fault.RunFault.TheVariants.{Line, Name, Resilience, Processes, Start, NotEmpty, Guard, Count, Event, MissingEvent, Overflow}
use Rattle.ta_replay.specs.declared.fault.RunFault.TheVariants.{Order, Memory}
use Rattle.ta_replay.specs.Shows.{IsMarked}
use Rattle.ta_replay.specs.Replays.{ReplayStays, ValuesAfter, EmptyAt, InOrder, Takes, LinePasses, FirstFilled, MayTakeLines}

-- the number of line i of the steps and marks: line 1 names the pattern, and a line for each parameter and each initial location follows
abbrev pub run_line_number : Automaton → ℕ → ℕ
run_line_number a i = 2 + length a.parameters + length a.initial + i

-- the checks of a step before `empty` refuse
abbrev pub StepStops : Automaton → List ℤ → ℕ → ℤ → StepFault → Type 0
StepStops a values r factor fault = (rule : Rule) → slice_get a.rules r ≡ Some rule → StepFails a rule factor values fault

-- the checks of a step before `empty` pass, but it leads into a location of `empty`
abbrev pub StepFills : Automaton → Pattern → List ℤ → ℕ → ℤ → Type 0
StepFills a p values r factor = (after : List ℤ) × Takes a r factor values after × ¬ EmptyAt a p.empty after

-- how a step refuses, its line having a number
abbrev pub StepRefuses : Automaton → Pattern → List ℤ → ℕ → ℤ → ℕ → RunFault → Type 0
StepRefuses a p values r factor number (Count line) = (line ≡ number) × StepStops a values r factor step.Count
StepRefuses a p values r factor number (Overflow line) = (line ≡ number) × ((place : ℕ) × StepStops a values r factor (step.OutOfRange place))
StepRefuses a p values r factor number (Guard line guard) = (line ≡ number) × StepStops a values r factor (step.Guard guard)
StepRefuses a p values r factor number (NotEmpty line) = (line ≡ number) × StepFills a p values r factor
StepRefuses a p values r factor number _ = ⊥

-- a condition of a marked event in order stops at a bad row
abbrev pub EventStops : Pattern → (ℕ → Type 0) → List ℤ → ((ℕ → ℤ) → Row → Type 0) → ℕ → Type 0
EventStops p Marked values Bad e =
    InOrder p Marked e
    × ((event : events.Event) → slice_get p.events e ≡ Some event → (k : ℕ) × ConditionStopsAt (point_of values) (Bad (point_of values)) event.condition k)

-- how a mark refuses, its line having a number
abbrev pub MarkRefuses : Pattern → (ℕ → Type 0) → List ℤ → ℕ → ℕ → RunFault → Type 0
MarkRefuses p Marked values e number (Order line) = (line ≡ number) × ¬ InOrder p Marked e
MarkRefuses p Marked values e number (Overflow line) = (line ≡ number) × EventStops p Marked values RowOutOfRange e
MarkRefuses p Marked values e number (Event line) = (line ≡ number) × EventStops p Marked values RowFails e
MarkRefuses p Marked values e number _ = ⊥

-- how a line with a number refuses, at the values before it and after the marks before it
abbrev pub LineRefuses : Automaton → Pattern → (ℕ → Type 0) → List ℤ → RunLine → ℕ → RunFault → Type 0
LineRefuses a p Marked values (Step r factor) number fault = StepRefuses a p values r factor number fault
LineRefuses a p Marked values (Mark e) number fault = MarkRefuses p Marked values e number fault

-- line i refuses, and each earlier check passes
pub record LineStops (a : Automaton) (p : Pattern) (run : Run) (fault : RunFault) : Type 0 where
  pub may_follow : MayTakeLines a p run
  pub i : ℕ
  pub before : (j : ℕ) (line : RunLine) → j < i → slice_get run.lines j ≡ Some line → LinePasses a p run j line
  pub config : Config
  pub is_of : IsOf a config
  pub reached : ValuesAfter a run (take i run.lines) config.values.items
  pub line : RunLine
  pub at : slice_get run.lines i ≡ Some line
  pub refuses : LineRefuses a p (IsMarked (take i run.lines)) config.values.items line (run_line_number a i) fault

-- how the first configuration is refused
abbrev pub ConfigRefuses : Automaton → Run → RunFault → Type 0
ConfigRefuses a run (Resilience k) = StartFails a run.parameters run.counts (start.Resilience k)
ConfigRefuses a run Processes = StartFails a run.parameters run.counts start.Processes
ConfigRefuses a run (Overflow line) = (line ≡ 1) × StartFails a run.parameters run.counts start.OutOfRange
ConfigRefuses a run _ = ⊥

-- how the start condition refuses at some values
abbrev pub StartRefuses : Pattern → List ℤ → RunFault → Type 0
StartRefuses p values (Start k) = ConditionStopsAt (point_of values) (RowFails (point_of values)) p.start k
StartRefuses p values (Overflow line) = (line ≡ 1) × ((k : ℕ) × ConditionStopsAt (point_of values) (RowOutOfRange (point_of values)) p.start k)
StartRefuses p values _ = ⊥

-- the run may start, and comparison k of the start condition stops at a bad row
pub record StartStops (a : Automaton) (p : Pattern) (run : Run) (Bad : (ℕ → ℤ) → Row → Type 0) (k : ℕ) : Type 0 where
  pub may_start : MayStart a run.parameters run.counts
  pub first : List ℤ
  pub starts : StartsAt a run.parameters run.counts first
  pub stops : ConditionStopsAt (point_of first) (Bad (point_of first)) p.start k

-- the run may start and the start condition holds, but an initial location of `empty` has processes, the first one at this line
pub record FilledAt (a : Automaton) (p : Pattern) (run : Run) (line : ℕ) : Type 0 where
  pub may_start : MayStart a run.parameters run.counts
  pub first : List ℤ
  pub starts : StartsAt a run.parameters run.counts first
  pub start : ConditionPasses (point_of first) p.start
  pub j : ℕ
  pub filled : FirstFilled a p run j
  pub line_is : line ≡ 2 + length a.parameters + j

-- no line refuses, and this event is the first without a mark
pub record LacksMark (a : Automaton) (p : Pattern) (run : Run) (e : ℕ) : Type 0 where
  pub may_follow : MayTakeLines a p run
  pub passes : (j : ℕ) (line : RunLine) → slice_get run.lines j ≡ Some line → LinePasses a p run j line
  pub exists : e < length p.events
  pub missing : ¬ IsMarked run.lines e
  pub before : (f : ℕ) → f < e → IsMarked run.lines f

-- the first check of the replay for a pattern that refuses; it is never out of memory
abbrev pub FirstRefusal : Automaton → Pattern → Run → RunFault → Type 0
FirstRefusal a p run (Line line) = ⊥
FirstRefusal a p run (Name line) = ⊥
FirstRefusal a p run (Resilience k) = ConfigRefuses a run (Resilience k)
FirstRefusal a p run Processes = ConfigRefuses a run Processes
FirstRefusal a p run (Start k) = StartStops a p run RowFails k
FirstRefusal a p run (NotEmpty line) = FilledAt a p run line ⊎ LineStops a p run (NotEmpty line)
FirstRefusal a p run (Guard line guard) = LineStops a p run (Guard line guard)
FirstRefusal a p run (Count line) = LineStops a p run (Count line)
FirstRefusal a p run (Event line) = LineStops a p run (Event line)
FirstRefusal a p run (MissingEvent e) = LacksMark a p run e
FirstRefusal a p run (Overflow line) =
    ConfigRefuses a run (Overflow line) ⊎ ((line ≡ 1) × ((k : ℕ) × StartStops a p run RowOutOfRange k)) ⊎ LineStops a p run (Overflow line)
FirstRefusal a p run (Order line) = LineStops a p run (Order line)
FirstRefusal a p run Memory = ⊥

-- the first check of the replay that refuses
abbrev pub ReplayFault : File → Run → RunFault → Type 0
ReplayFault file run fault = (p : Pattern) → slice_get file.patterns run.pattern ≡ Some p → FirstRefusal file.automaton p run fault

-- how a run that shows its pattern can be refused: only if some number leaves the range
abbrev pub RefusedThough : File → Run → RunFault → Type 0
RefusedThough file run (Overflow line) = ¬ ReplayStays file run
RefusedThough file run _ = ⊥
