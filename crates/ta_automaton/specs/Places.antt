-- The places of a configuration, by number, and what one firing of a rule adds at each. Source of counter systems: Konnov, Lazić, Veith,
-- Widder, POPL 2017.
use Rattle.std.specs.Prelude.{ℕ, ℤ, pos, ◌≡◌, ◌+◌, ◌-◌, ◌==◌, ◌+ℤ◌, ◌-ℤ◌, nat_lt, if◌then◌else◌, length, Option, Some, None}
use Rattle.ta_linear.specs.Terms.{coefficient}
use Rattle.ta_automaton.specs.declared.rule.Rule.{Rule}
use Rattle.ta_automaton.specs.declared.automaton.Automaton.{Automaton}
use Rattle.ta_automaton.specs.Runs.{Config}

-- a configuration with a value for each place
pub record Whole (a : Automaton) (c : Config) : Type 0 where
  pub parameters : length c.parameters ≡ length a.parameters
  pub shared : length c.shared ≡ length a.shared
  pub counters : length c.counters ≡ length a.locations

-- 1 where two numbers are equal, else 0
abbrev pub one_if : ℕ → ℕ → ℤ
one_if x y = if x == y then pos 1 else pos 0

-- the place number of a location
abbrev pub location_place : Automaton → ℕ → ℕ
location_place a l = length a.parameters + length a.shared + l

-- the updates, at the places of the shared variables
unfoldable pub shared_change : Automaton → Rule → ℕ → ℤ
shared_change a rule place =
    if nat_lt place (length a.parameters) then pos 0
    else (if nat_lt place (length a.parameters + length a.shared) then coefficient rule.updates (place - length a.parameters) else pos 0)

-- the updates, and the move of a process
abbrev pub rule_change : Automaton → Option Rule → ℕ → ℤ
rule_change a None place = pos 0
rule_change a (Some rule) place =
    shared_change a rule place +ℤ (one_if (location_place a rule.to) place -ℤ one_if (location_place a rule.from) place)
