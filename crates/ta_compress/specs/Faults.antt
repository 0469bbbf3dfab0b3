-- Which runs can be compressed, and why others are refused.
use Rattle.std.specs.Prelude.{ℕ, ℤ, pos, ◌-◌, ◌^◌, ◌<◌, ◌≤◌, ◌≡◌, ◌≢◌, ◌⊎◌, List, [], ◌∷◌, ◌++◌, min, take, unsigned_abs, slice_get, Some}
use Rattle.ta_linear.specs.Values.{point_of}
use Rattle.ta_automaton.specs.declared.automaton.Automaton.{Automaton}
use Rattle.ta_automaton.specs.declared.pattern.Pattern.{Pattern}
use Rattle.ta_automaton.specs.declared.file.File.{File}
use Rattle.ta_counter.specs.Holding.{GuardsStay}
use Rattle.ta_counter.specs.Starts.{StartsAt}
use Rattle.ta_replay.specs.declared.fault.RunFault.{RunFault}
use Rattle.ta_replay.specs.declared.fault.RunFault.TheVariants as runs
use Rattle.ta_replay.specs.declared.run.Run.{Run}
use Rattle.ta_replay.specs.declared.run.RunLine.{RunLine}
use Rattle.ta_replay.specs.declared.run.RunLine.TheVariants.{Step}
use Rattle.ta_replay.specs.Pieces.{HasFewSteps}
use Rattle.ta_replay.specs.ReplayFaults.{ReplayFault, run_line_number}
use Rattle.ta_replay.specs.Replays.{ReplayStays}
use Rattle.ta_replay.specs.Shows.{Shows, factors_sum}
use Rattle.ta_compress.specs.declared.fault.CompressFault.{CompressFault}
use Rattle.ta_compress.specs.declared.fault.CompressFault.TheVariants.{Replay, TooManySteps, Memory}
use Rattle.ta_compress.specs.Units.{value_after, EndsAtLastMark}

-- the run shows its pattern, and no number of its replay leaves the range
pub record ReplaysInRange (file : File) (run : Run) : Type 0 where
  pub shows : Shows file run
  pub stays : ReplayStays file run

-- the run is replayed, and its factors add up to at most 1,000,000
pub record IsSmallReplay (file : File) (run : Run) : Type 0 where
  pub replayed : ReplaysInRange file run
  pub few : factors_sum run.lines ≤ 1000000

-- after some unit steps of line i a guard of the file leaves the range
pub record GuardsOutOfRangeIn (a : Automaton) (first : List ℤ) (lines : List RunLine) (i : ℕ) : Type 0 where
  pub rule : ℕ
  pub factor : ℤ
  pub at : slice_get lines i ≡ Some (Step rule factor)
  pub times : ℕ
  pub some : 1 ≤ times
  pub most : times ≤ unsigned_abs factor
  pub leaves : ¬ GuardsStay a (value_after a first (take i lines ++ Step rule (pos times) ∷ []))

-- no guard of the file leaves the range in the first configuration, nor after a unit step before the last mark
pub record GuardsStayed (a : Automaton) (run : Run) : Type 0 where
  pub first : List ℤ
  pub starts : StartsAt a run.parameters run.counts first
  pub n : ℕ
  pub last_mark : EndsAtLastMark run.lines n
  pub at_start : GuardsStay a (point_of first)
  pub on_the_way : (i : ℕ) → i < n → ¬ GuardsOutOfRangeIn a first run.lines i

-- a guard leaves the range in the first configuration
pub record GuardsOutOfRangeAtStart (a : Automaton) (run : Run) : Type 0 where
  pub first : List ℤ
  pub starts : StartsAt a run.parameters run.counts first
  pub leaves : ¬ GuardsStay a (point_of first)

-- line i is the first one with a unit step, before the last mark, after which a guard leaves the range
pub record GuardsOutOfRangeFirstIn (a : Automaton) (run : Run) (i : ℕ) : Type 0 where
  pub first : List ℤ
  pub starts : StartsAt a run.parameters run.counts first
  pub n : ℕ
  pub last_mark : EndsAtLastMark run.lines n
  pub at_start : GuardsStay a (point_of first)
  pub within : i < n
  pub leaves : GuardsOutOfRangeIn a first run.lines i
  pub before : (j : ℕ) → j < i → ¬ GuardsOutOfRangeIn a first run.lines j

-- the line at which a guard leaves the range first
abbrev pub GuardsOutOfRangeAt : Automaton → Run → ℕ → Type 0
GuardsOutOfRangeAt a run line = ((line ≡ 1) × GuardsOutOfRangeAtStart a run) ⊎ ((i : ℕ) × (line ≡ run_line_number a i) × GuardsOutOfRangeFirstIn a run i)

-- the run is replayed, its factors add up to at most 1,000,000, and no guard of the file leaves the range on its way
pub record Compressible (file : File) (run : Run) : Type 0 where
  pub replayed : ReplaysInRange file run
  pub few : factors_sum run.lines ≤ 1000000
  pub guards : GuardsStayed file.automaton run

-- the first check of the replay that refuses
pub record ReplayRefuses (file : File) (run : Run) (fault : RunFault) : Type 0 where
  pub first : ReplayFault file run fault
  pub no_memory : fault ≢ runs.Memory
  pub not_replayed : ¬ ReplaysInRange file run

-- the run is replayed and has few steps, but a guard of the file leaves the range
pub record GuardsRefuse (file : File) (run : Run) (fault : RunFault) : Type 0 where
  pub replayed : ReplaysInRange file run
  pub few : factors_sum run.lines ≤ 1000000
  pub line : ℕ
  pub is : fault ≡ runs.Overflow line
  pub leaves : GuardsOutOfRangeAt file.automaton run line

-- the run is replayed, but its factors add up to more than 1,000,000: the sum, or 2^127 - 1 where it is larger
pub record StepsRefuse (file : File) (run : Run) (steps : ℤ) : Type 0 where
  pub replayed : ReplaysInRange file run
  pub many : 1000000 < factors_sum run.lines
  pub sum : steps ≡ pos (min (factors_sum run.lines) (2 ^ 127 - 1))

-- why a run is refused: first the errors of the replay, then the number of steps, then the guards; "out of memory" is always allowed
abbrev pub CompressFaultOf : File → Run → CompressFault → Type 0
CompressFaultOf file run (Replay fault) = ReplayRefuses file run fault ⊎ GuardsRefuse file run fault
CompressFaultOf file run (TooManySteps steps) = StepsRefuse file run steps
CompressFaultOf file run Memory = Unit {0}

-- lines with too many steps
abbrev pub StepsStop : List RunLine → CompressFault → Type 0
StepsStop lines (Replay fault) = ⊥
StepsStop lines (TooManySteps steps) = (1000000 < factors_sum lines) × (steps ≡ pos (min (factors_sum lines) (2 ^ 127 - 1)))
StepsStop lines Memory = ⊥

-- at most (guards + events) · (rules + 1) steps; guards are the distinct rise and fall guards of the file
abbrev pub IsShortRun : File → Run → Type 0
IsShortRun file run = (p : Pattern) → slice_get file.patterns run.pattern ≡ Some p → HasFewSteps file.automaton p run.lines
