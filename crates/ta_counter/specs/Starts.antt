-- The initial configuration of given parameters and counts, and the checks that may refuse it.
use Rattle.std.specs.Prelude.{ℕ, ℤ, pos, ◌+◌, ◌<◌, ◌≡◌, ◌≢◌, ◌⊎◌, List, length, take, slice_get, Contains, Some, Result, Ok, Err}
use Rattle.ta_linear.specs.Numbers.{InRange}
use Rattle.ta_linear.specs.Sums.{StaysInRange}
use Rattle.ta_linear.specs.Values.{point_of, value_of}
use Rattle.ta_automaton.specs.declared.automaton.Automaton.{Automaton}
use Rattle.ta_automaton.specs.Runs.{Initial}
use Rattle.ta_automaton.specs.Places.{location_place}
use Rattle.ta_counter.specs.declared.config.Config.{Config}
use Rattle.ta_counter.specs.declared.fault.StartFault.{StartFault}
use Rattle.ta_counter.specs.declared.fault.StartFault.TheVariants.{Resilience, Processes, OutOfRange}
use Rattle.ta_counter.specs.Configs.{places_of, sum_of, model_of}
use Rattle.ta_counter.specs.Checks.{RowFails, RowOutOfRange, ConditionPasses, ConditionStopsAt}

-- these parameters, these counts at the initial locations in order, and 0 elsewhere
pub record StartsAt (a : Automaton) (parameters counts values : List ℤ) : Type 0 where
  pub places : length values ≡ places_of a
  pub parameters_first : take (length a.parameters) values ≡ parameters
  pub shared_zero : (x : ℕ) → x < length a.shared → point_of values (length a.parameters + x) ≡ pos 0
  pub counts_there : (j l : ℕ) → slice_get a.initial j ≡ Some l → point_of values (location_place a l) ≡ point_of counts j
  pub others_empty : (l : ℕ) → ¬ Contains a.initial l → point_of values (location_place a l) ≡ pos 0

-- the number of processes is evaluated within the range
abbrev pub ProcessesStay : Automaton → List ℤ → Type 0
ProcessesStay a parameters = StaysInRange (point_of parameters) a.processes.constant a.processes.terms

-- the resilience condition holds, and the counts add up to the number of processes, with no number out of range
pub record MayStart (a : Automaton) (parameters counts : List ℤ) : Type 0 where
  pub resilience : ConditionPasses (point_of parameters) a.resilience
  pub processes_stay : ProcessesStay a parameters
  pub sum_stays : InRange (sum_of counts)
  pub same : value_of (point_of parameters) a.processes ≡ sum_of counts

-- the counts do not add up to the number of processes, and each earlier check passes
pub record OtherSum (a : Automaton) (parameters counts : List ℤ) : Type 0 where
  pub resilience : ConditionPasses (point_of parameters) a.resilience
  pub processes_stay : ProcessesStay a parameters
  pub sum_stays : InRange (sum_of counts)
  pub differ : value_of (point_of parameters) a.processes ≢ sum_of counts

-- a comparison leaves the range before one is false; or the condition holds, and the number of processes or the sum of the counts leaves
-- the range
abbrev pub StartOutOfRange : Automaton → List ℤ → List ℤ → Type 0
StartOutOfRange a parameters counts =
    ((k : ℕ) × ConditionStopsAt (point_of parameters) (RowOutOfRange (point_of parameters)) a.resilience k)
    ⊎ (ConditionPasses (point_of parameters) a.resilience × (¬ ProcessesStay a parameters ⊎ ¬ InRange (sum_of counts)))

-- the first check that fails
abbrev pub StartFails : Automaton → List ℤ → List ℤ → StartFault → Type 0
StartFails a parameters counts (Resilience k) = ConditionStopsAt (point_of parameters) (RowFails (point_of parameters)) a.resilience k
StartFails a parameters counts Processes = OtherSum a parameters counts
StartFails a parameters counts OutOfRange = StartOutOfRange a parameters counts

-- what the checks answer
abbrev pub StartChecked : Automaton → List ℤ → List ℤ → Result Unit StartFault → Type 0
StartChecked a parameters counts (Ok done) = MayStart a parameters counts
StartChecked a parameters counts (Err fault) = StartFails a parameters counts fault

-- the configuration if no check fails, otherwise the first check that fails
abbrev pub StartAnswer : Automaton → List ℤ → List ℤ → Result Config StartFault → Type 0
StartAnswer a parameters counts (Ok c) = StartsAt a parameters counts c.values.items × MayStart a parameters counts
StartAnswer a parameters counts (Err fault) = StartFails a parameters counts fault

-- if the condition is false or the sums differ, these parameters and counts make no initial configuration
abbrev pub NoStart : Automaton → List ℤ → List ℤ → StartFault → Type 0
NoStart a parameters counts (Resilience k) = (values : List ℤ) → StartsAt a parameters counts values → ¬ Initial a (model_of a values)
NoStart a parameters counts Processes = (values : List ℤ) → StartsAt a parameters counts values → ¬ Initial a (model_of a values)
NoStart a parameters counts OutOfRange = Unit {0}
