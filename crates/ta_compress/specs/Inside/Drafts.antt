-- A compressed run while it is built.
use Rattle.std.specs.Prelude.{ℕ, ℤ, pos, ◌<◌, ◌≤◌, ◌≡◌, ◌⊎◌, ◌+ℤ◌, ◌*ℤ◌, ◌≤ℤ◌, List, [], ◌∷◌, ◌++◌, length, map, replicate, unsigned_abs, slice_get, Some}
use Rattle.std.specs.Prelude.{IsBitSet}
use Rattle.ta_base.specs.Sums.{one_if, times_in}
use Rattle.ta_linear.specs.Values.{point_of}
use Rattle.ta_automaton.specs.declared.automaton.Automaton.{Automaton}
use Rattle.ta_automaton.specs.declared.rule.Rule.{Rule}
use Rattle.ta_automaton.specs.Places.{rule_change}
use Rattle.ta_counter.specs.declared.fault.StepFault.{StepFault}
use Rattle.ta_counter.specs.declared.holding.Guards.{Guards}
use Rattle.ta_counter.specs.declared.config.Config.{Config}
use Rattle.ta_counter.specs.Configs.{IsOf}
use Rattle.ta_counter.specs.Holding.{GuardsAre, GuardsStay}
use Rattle.ta_counter.specs.Steps.{StepFails}
use Rattle.ta_scope.specs.Arranged.{ArrangedOf, AreRuleCounts, count_at}
use Rattle.ta_replay.specs.declared.fault.RunFault.TheVariants as runs
use Rattle.ta_replay.specs.declared.run.RunLine.{RunLine}
use Rattle.ta_replay.specs.declared.run.RunLine.TheVariants.{Step, Mark}
use Rattle.ta_compress.specs.declared.draft.Draft.{Draft}
use Rattle.ta_compress.specs.declared.fault.CompressFault.{CompressFault}
use Rattle.ta_compress.specs.declared.fault.CompressFault.TheVariants.{Replay, TooManySteps, Memory}
use Rattle.ta_replay.specs.declared.run.Run.{Run}
use Rattle.ta_counter.specs.Starts.{StartsAt}
use Rattle.ta_compress.specs.Units.{unit, value_after, Switches, Drops}
use Rattle.ta_replay.specs.Pieces.{step_line}
use Rattle.ta_compress.specs.Pieces.{CutPiece, AreCut, Still, units}

-- no check of a unit step refuses at some values
abbrev pub MayStep : Automaton → ℕ → List ℤ → Type 0
MayStep a r values = (fault : StepFault) (rule : Rule) → slice_get a.rules r ≡ Some rule → StepFails a rule (pos 1) values fault → ⊥

-- the values after some firings of a rule
abbrev pub repeated : Automaton → ℕ → List ℤ → ℕ → ℕ → ℤ
repeated a r values times place = point_of values place +ℤ (pos times *ℤ rule_change a (slice_get a.rules r) place)

-- the second values are those after some firings
abbrev pub RepeatsRule : Automaton → ℕ → List ℤ → ℕ → List ℤ → Type 0
RepeatsRule a r values times after = (place : ℕ) → point_of after place ≡ repeated a r values times place

-- no check of this many unit steps in a row refuses, if all guards stay in range
abbrev pub MayRepeat : Automaton → ℕ → ℕ → List ℤ → Type 0
MayRepeat a r count values =
    (times : ℕ) (now : Config) → times < count → IsOf a now → RepeatsRule a r values times now.values.items → GuardsStay a (point_of now.values.items)
    → MayStep a r now.values.items

-- the draft's configuration is one of the automaton, its guards are those that hold there, and it has a count for each rule
pub record DraftIsReady (a : Automaton) (draft : Draft) : Type 0 where
  pub is_of : IsOf a draft.config
  pub guards : GuardsAre a (point_of draft.config.values.items) draft.guards
  pub counts : AreRuleCounts a draft.counts.items

-- each count can grow so far without passing 1,000,000
abbrev pub Room : ℕ → List ℤ → Type 0
Room more counts = (r : ℕ) → (count_at counts r +ℤ pos more) ≤ℤ pos 1000000

-- no counts
abbrev pub zeros : Automaton → List ℤ
zeros a = replicate (length a.rules) (pos 0)

-- the count of a rule is one more
pub record OneMore (r : ℕ) (counts counts' : List ℤ) : Type 0 where
  pub each_rule : length counts' ≡ length counts
  pub counted : (q : ℕ) → count_at counts' q ≡ (count_at counts q +ℤ one_if r q)

-- the arranged steps of counts and the kept lines are added, and no counts are left
pub record Closes (a : Automaton) (counts : List ℤ) (kept : List RunLine) (old new : Draft) : Type 0 where
  pub steps : List (ℕ × ℤ)
  pub arranged : ArrangedOf a counts steps
  pub lines : new.lines.items ≡ old.lines.items ++ (map step_line steps ++ kept)
  pub none_left : new.counts.items ≡ zeros a

-- a unit step that changes no guard is counted
pub record CountsOn (a : Automaton) (r : ℕ) (before after : ℕ → ℤ) (old new : Draft) : Type 0 where
  pub still : ¬ Switches a before after
  pub counted : OneMore r old.counts.items new.counts.items
  pub lines : new.lines.items ≡ old.lines.items

-- a unit step that makes a fall guard false stands by itself
pub record Falls (a : Automaton) (r : ℕ) (before after : ℕ → ℤ) (old new : Draft) : Type 0 where
  pub drops : Drops a before after
  pub closes : Closes a old.counts.items (unit r ∷ []) old new

-- one that changes guards otherwise is counted, and ends the piece
pub record CountsAndCloses (a : Automaton) (r : ℕ) (before after : ℕ → ℤ) (old new : Draft) : Type 0 where
  pub switches : Switches a before after
  pub drops_none : ¬ Drops a before after
  pub counts : List ℤ
  pub counted : OneMore r old.counts.items counts
  pub closes : Closes a counts [] old new

-- what a unit step between two points does to a draft
abbrev pub CountsStep : Automaton → ℕ → (ℕ → ℤ) → (ℕ → ℤ) → Draft → Draft → Type 0
CountsStep a r before after old new = CountsOn a r before after old new ⊎ (Falls a r before after old new ⊎ CountsAndCloses a r before after old new)

-- one unit step of a rule
pub record Advances (a : Automaton) (r : ℕ) (old new : Draft) : Type 0 where
  pub moved : RepeatsRule a r old.config.values.items 1 new.config.values.items
  pub ready : DraftIsReady a new
  pub counted : CountsStep a r (point_of old.config.values.items) (point_of new.config.values.items) old new

-- the draft has these unfolded lines so far: pieces that are cut off and written, and the steps since the last cut, which are counted
pub record DraftAt (a : Automaton) (first : List ℤ) (done : List RunLine) (draft : Draft) : Type 0 where
  pub ready : DraftIsReady a draft
  pub reached : (place : ℕ) → point_of draft.config.values.items place ≡ value_after a first done place
  pub pieces : List CutPiece
  pub written : List RunLine
  pub open_ : List ℕ
  pub done_is : done ≡ written ++ units open_
  pub cut : AreCut a first [] written pieces draft.lines.items
  pub still : Still a first written open_
  pub counted : (r : ℕ) → r < length a.rules → count_at draft.counts.items r ≡ pos (times_in r open_)

-- some of the firings in a row makes a guard leave the range
pub record GuardsOutOfRangeWithin (a : Automaton) (r count : ℕ) (values : List ℤ) : Type 0 where
  pub times : ℕ
  pub some : 1 ≤ times
  pub most : times ≤ count
  pub leaves : ¬ GuardsStay a (repeated a r values times)

-- why firings in a row stop
abbrev pub RepeatStops : Automaton → ℕ → ℕ → List ℤ → ℕ → CompressFault → Type 0
RepeatStops a r count values line (Replay (runs.Overflow l)) = (l ≡ line) × GuardsOutOfRangeWithin a r count values
RepeatStops a r count values line (Replay _) = ⊥
RepeatStops a r count values line (TooManySteps n) = ⊥
RepeatStops a r count values line Memory = Unit {0}

-- the same guards
abbrev pub SameGuards : Guards → Guards → Type 0
SameGuards before now = (before.rise ≡ now.rise) × (before.fall ≡ now.fall)

-- a number of the first mask is not in the second
abbrev pub HasFallen : ℕ → ℕ → Type 0
HasFallen before now = (j : ℕ) × IsBitSet before j × ¬ IsBitSet now j

-- what a line of a run may be followed by at a draft
abbrev pub LineMay : Automaton → Draft → RunLine → Type 0
LineMay a draft (Step r factor) =
    (r < length a.rules) × (pos 1 ≤ℤ factor) × (unsigned_abs factor ≤ 1000000)
    × MayRepeat a r (unsigned_abs factor) draft.config.values.items × Room (unsigned_abs factor) draft.counts.items
LineMay a draft (Mark e) = Unit {0}

-- the guards stay in range after each unit step of a line
abbrev pub LineKeeps : Automaton → List ℤ → RunLine → Type 0
LineKeeps a values (Step r factor) = (times : ℕ) → 1 ≤ times → times ≤ unsigned_abs factor → GuardsStay a (repeated a r values times)
LineKeeps a values (Mark e) = Unit {0}

-- why a line with a number stops
abbrev pub DraftStops : Automaton → List ℤ → RunLine → ℕ → CompressFault → Type 0
DraftStops a values (Step r factor) number fault = RepeatStops a r (unsigned_abs factor) values number fault
DraftStops a values (Mark e) number fault = fault ≡ Memory

-- the draft that a run begins with
pub record IsFirstDraft (a : Automaton) (run : Run) (draft : Draft) : Type 0 where
  pub starts : StartsAt a run.parameters run.counts draft.config.values.items
  pub stay : GuardsStay a (point_of draft.config.values.items)
  pub at : DraftAt a draft.config.values.items [] draft
  pub room : Room 1000000 draft.counts.items
