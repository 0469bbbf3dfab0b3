-- How far a replay has come.
use Rattle.std.specs.Prelude.{ℕ, ◌<◌, ◌≡◌, ◌↔◌, ◌⊎◌, List, length, take, slice_get, Some, IsBitSet}
use Rattle.std.specs.List.{AllByRecursion}
use Rattle.ta_automaton.specs.declared.automaton.Automaton.{Automaton}
use Rattle.ta_automaton.specs.declared.pattern.Event.{Event}
use Rattle.ta_automaton.specs.declared.pattern.Pattern.{Pattern}
use Rattle.ta_automaton.specs.Patterns.{PatternWithin}
use Rattle.ta_automaton.specs.Runs as runs
use Rattle.ta_automaton.specs.Runs.{At, HappensAt, Holds, Initial, Steps}
use Rattle.ta_counter.specs.declared.config.Config.{Config}
use Rattle.ta_counter.specs.Checks.{Over}
use Rattle.ta_counter.specs.Configs.{config_of, places_of, IsOf}
use Rattle.ta_counter.specs.Starts.{StartsAt, MayStart}
use Rattle.ta_counter.specs.Values.{Value}
use Rattle.ta_pattern.specs.Empty.{KeepsEmpty}
use Rattle.ta_replay.specs.declared.run.Run.{Run}
use Rattle.ta_replay.specs.declared.run.RunLine.{RunLine}
use Rattle.ta_replay.specs.declared.run.RunLine.TheVariants.{Mark}
use Rattle.ta_replay.specs.Fits.{LineFits}
use Rattle.ta_replay.specs.Shows.{unit_steps, steps_before, MarksAt, IsMarked, IsFirstConfig}
use Rattle.ta_replay.specs.Replays.{ValuesAfter, LinePasses, MayTakeLines}

-- a pattern over an automaton's places and locations
abbrev pub PatternOf : Automaton → Pattern → Type 0
PatternOf a p = PatternWithin (places_of a) (length a.locations) p

-- the condition of each event is over the first places alone
abbrev pub EventsOver : ℕ → Pattern → Type 0
EventsOver places p = (e : ℕ) (event : Event) → slice_get p.events e ≡ Some event → Over places event.condition

-- the configuration that a run starts with
pub record StartsWith (a : Automaton) (run : Run) (config : Config) : Type 0 where
  pub may_start : MayStart a run.parameters run.counts
  pub starts : StartsAt a run.parameters run.counts config.values.items
  pub initial : Initial a (config_of a config)
  pub is_of : IsOf a config

-- the marks after a line
abbrev pub MarksAfter : ℕ → RunLine → ℕ → Type 0
MarksAfter marks line after = (e : ℕ) → IsBitSet after e ↔ (IsBitSet marks e ⊎ (line ≡ Mark e))

-- the unit steps of the first i lines as steps of the model
pub record Path (a : Automaton) (p : Pattern) (lines : List RunLine) (i : ℕ) (first last : runs.Config) : Type 0 where
  pub later : List runs.Config
  pub steps : Steps a first (unit_steps (take i lines)) later
  pub ends : At first later (steps_before lines i) last
  pub kept : (k : ℕ) (c : runs.Config) → At first later k c → KeepsEmpty p.empty c
  pub happened : (j e : ℕ) (event : Event) → j < i → MarksAt lines j e → slice_get p.events e ≡ Some event → HappensAt first later event (steps_before lines j)

-- the first i lines pass and lead to a configuration and marks
pub record Following (a : Automaton) (p : Pattern) (run : Run) (i : ℕ) (config : Config) (marks : ℕ) : Type 0 where
  pub may_follow : MayTakeLines a p run
  pub before : (j : ℕ) (line : RunLine) → j < i → slice_get run.lines j ≡ Some line → LinePasses a p run j line
  pub is_of : IsOf a config
  pub reached : ValuesAfter a run (take i run.lines) config.values.items
  pub marked : (e : ℕ) → IsBitSet marks e ↔ IsMarked (take i run.lines) e
  pub first : runs.Config
  pub begins : IsFirstConfig a run first
  pub initial : Initial a first
  pub start : Holds p.start first
  pub path : Path a p run.lines i first (config_of a config)

-- all lines pass and lead to marks
abbrev pub AreFollowed : Automaton → Pattern → Run → ℕ → Type 0
AreFollowed a p run marks = (config : Config) × Following a p run (length run.lines) config marks

-- a run's values and lines fit an automaton and a pattern
pub record FitsPattern (a : Automaton) (p : Pattern) (run : Run) : Type 0 where
  pub parameters : length run.parameters ≡ length a.parameters
  pub parameters_natural : AllByRecursion Value run.parameters
  pub counts : length run.counts ≡ length a.initial
  pub counts_natural : AllByRecursion Value run.counts
  pub lines : AllByRecursion (LineFits a p) run.lines

-- the first event that a mask does not name
pub record FirstUnmarked (p : Pattern) (marks e : ℕ) : Type 0 where
  pub exists : e < length p.events
  pub missing : ¬ IsBitSet marks e
  pub before : (f : ℕ) → f < e → IsBitSet marks f
