-- What holds along every run: of parameters, counters, shared variables and guards. Source of the laws of guards: Konnov, Lazić, Veith,
-- Widder, POPL 2017 (threshold guards).
use Rattle.std.specs.Prelude.{ℕ, ℤ, pos, ◌+◌, ◌*ℤ◌, ◌≤◌, ◌≡◌, ◌==◌, Bool, false, List, length, take, sum, count_by, slice_get, slice_index, Option, Some, None}
use Rattle.ta_base.specs.Sums.{total, times_in}
use Rattle.ta_linear.specs.Terms.{coefficient}
use Rattle.ta_linear.specs.Values.{value_of, RowHolds}
use Rattle.ta_linear.specs.declared.row.Row.{Row}
use Rattle.ta_automaton.specs.declared.rule.Rule.{Rule}
use Rattle.ta_automaton.specs.declared.automaton.Automaton.{Automaton}
use Rattle.ta_automaton.specs.declared.pattern.Pattern.{Pattern}
use Rattle.ta_automaton.specs.Runs.{Config, Run, At, Safe, value_at, number_at}
use Rattle.std.specs.List.{range_with_len}

-- at every position of a run the counters add up to the number of processes
abbrev pub CountersAddUp : Type 0
CountersAddUp =
    (a : Automaton) (first : Config) (rules : List ℕ) (later : List Config) → Run a first rules later
    → (k : ℕ) (c : Config) → At first later k c
    → pos (sum c.counters) ≡ value_of (number_at c.parameters) a.processes

-- the parameters never change
abbrev pub ParametersStay : Type 0
ParametersStay =
    (a : Automaton) (first : Config) (rules : List ℕ) (later : List Config) → Run a first rules later
    → (k : ℕ) (c : Config) → At first later k c
    → c.parameters ≡ first.parameters

-- no shared variable falls
abbrev pub SharedNeverFalls : Type 0
SharedNeverFalls =
    (a : Automaton) (first : Config) (rules : List ℕ) (later : List Config) → Run a first rules later
    → (j k : ℕ) (b c : Config) → j ≤ k → At first later j b → At first later k c
    → (x : ℕ) → slice_index b.shared x ≤ slice_index c.shared x

-- a rise guard that is true stays true
abbrev pub RiseGuardsStayTrue : Type 0
RiseGuardsStayTrue =
    (a : Automaton) (first : Config) (rules : List ℕ) (later : List Config) → Run a first rules later
    → (j k : ℕ) (b c : Config) → j ≤ k → At first later j b → At first later k c
    → (i : ℕ) (row : Row) → slice_get a.rise i ≡ Some row
    → RowHolds (value_at b) row → RowHolds (value_at c) row

-- a fall guard that is false stays false
abbrev pub FallGuardsStayFalse : Type 0
FallGuardsStayFalse =
    (a : Automaton) (first : Config) (rules : List ℕ) (later : List Config) → Run a first rules later
    → (j k : ℕ) (b c : Config) → j ≤ k → At first later j b → At first later k c
    → (i : ℕ) (row : Row) → slice_get a.fall i ≡ Some row
    → ¬ RowHolds (value_at b) row → ¬ RowHolds (value_at c) row

-- whether a rule leads into a location, or out of it
abbrev pub leads_into : ℕ → Option Rule → Bool
leads_into l None = false
leads_into l (Some rule) = rule.to == l

-- whether a rule leads out of a location
abbrev pub leads_out_of : ℕ → Option Rule → Bool
leads_out_of l None = false
leads_out_of l (Some rule) = rule.from == l

-- a counter is its first value plus the firings of rules into the location minus those out of it
abbrev pub CountersByFirings : Type 0
CountersByFirings =
    (a : Automaton) (first : Config) (rules : List ℕ) (later : List Config) → Run a first rules later
    → (k : ℕ) (c : Config) → At first later k c
    → (l : ℕ) → slice_index c.counters l + count_by (λ r. leads_out_of l (slice_get a.rules r)) (take k rules) ≡ slice_index first.counters l + count_by
    (λ r. leads_into l (slice_get a.rules r)) (take k rules)

-- what a rule adds to a shared variable
abbrev pub update_of : ℕ → Option Rule → ℤ
update_of x None = pos 0
update_of x (Some rule) = coefficient rule.updates x

-- a shared variable is the sum over the rules of the rule's update times the number of its firings
abbrev pub SharedByFirings : Type 0
SharedByFirings =
    (a : Automaton) (first : Config) (rules : List ℕ) (later : List Config) → Run a first rules later
    → (k : ℕ) (c : Config) → At first later k c
    → (x : ℕ) → pos (slice_index c.shared x) ≡ total (λ r. update_of x (slice_get a.rules r) *ℤ pos (times_in r (take k rules)))
    (range_with_len 0 (length a.rules))

-- some pattern is unsafe
abbrev pub SomeUnsafe : Type 0
SomeUnsafe = (a : Automaton) × (p : Pattern) × ¬ Safe a p
