-- Whether the condition of an event holds in a configuration.
use Rattle.std.specs.Prelude.{ℕ, ℤ, Bool, true, false, Result, Ok, Err}
use Rattle.ta_linear.specs.declared.fault.OutOfRange.{OutOfRange}
use Rattle.ta_automaton.specs.declared.condition.Condition.{Condition}
use Rattle.ta_automaton.specs.Runs.{Config, Holds}
use Rattle.ta_counter.specs.Checks.{RowFails, RowOutOfRange, ConditionPasses, ConditionStopsAt}

-- each row passes, or the first bad row is false, or the first bad row's evaluation leaves the range
abbrev pub EventAnswer : (ℕ → ℤ) → Condition → Result Bool OutOfRange → Type 0
EventAnswer point condition (Ok true) = ConditionPasses point condition
EventAnswer point condition (Ok false) = (k : ℕ) × ConditionStopsAt point (RowFails point) condition k
EventAnswer point condition (Err fault) = (k : ℕ) × ConditionStopsAt point (RowOutOfRange point) condition k

-- true if the condition holds, false if not
abbrev pub TellsEvent : Condition → Config → Result Bool OutOfRange → Type 0
TellsEvent condition c (Ok true) = Holds condition c
TellsEvent condition c (Ok false) = ¬ Holds condition c
TellsEvent condition c (Err fault) = Unit {0}
