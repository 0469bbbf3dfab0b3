-- Accelerated steps (a rule fires k times in a row), and their checks in order. Source: Konnov, Lazić, Veith, Widder, POPL 2017
-- (accelerated transitions).
use Rattle.std.specs.Prelude.{ℕ, ℤ, pos, ◌+◌, ◌≡◌, ◌⊎◌, ◌==◌, ◌+ℤ◌, ◌-ℤ◌, ◌*ℤ◌, ◌≤ℤ◌, List, length, slice_get, replicate, unsigned_abs, if◌then◌else◌, Some}
use Rattle.std.specs.Prelude.{Result, Ok, Err}
use Rattle.ta_linear.specs.Numbers.{InRange}
use Rattle.ta_linear.specs.Values.{point_of}
use Rattle.ta_automaton.specs.declared.rule.Rule.{Rule}
use Rattle.ta_automaton.specs.declared.automaton.Automaton.{Automaton}
use Rattle.ta_automaton.specs.Runs as runs
use Rattle.ta_automaton.specs.Runs.{Steps, At}
use Rattle.ta_automaton.specs.Places.{location_place, shared_change, rule_change}
use Rattle.ta_counter.specs.declared.config.Config.{Config}
use Rattle.ta_counter.specs.declared.fault.StepFault.{StepFault}
use Rattle.ta_counter.specs.declared.fault.StepFault.TheVariants.{Count, OutOfRange, Guard}
use Rattle.ta_counter.specs.Configs.{places_of, config_of}
use Rattle.ta_counter.specs.Checks.{AllPass, StopsAt, RowFails, RowOutOfRange}
use Rattle.ta_counter.specs.Guards.{MaskedPass, BadGuard}

-- k steps of a rule in a row, from one configuration of the model to another
pub record Fires (a : Automaton) (r k : ℕ) (before after : runs.Config) : Type 0 where
  pub later : List runs.Config
  pub steps : Steps a before (replicate k r) later
  pub last : At before later k after

-- the source has as many processes as fire; one is enough for a self-loop
abbrev pub Enough : Automaton → Rule → ℤ → List ℤ → Type 0
Enough a rule factor values =
    (if rule.from == rule.to then pos 1 else factor) ≤ℤ point_of values (location_place a rule.from)

-- the product of an update, and its sum with the old value, stay in range
pub record Grows (a : Automaton) (values : List ℤ) (factor : ℤ) (update : ℕ × ℤ) : Type 0 where
  pub product : InRange (factor *ℤ update.1)
  pub sum : InRange (point_of values (length a.parameters + update.0) +ℤ (factor *ℤ update.1))

abbrev pub AllGrow : Automaton → Rule → ℤ → List ℤ → Type 0
AllGrow a rule factor values = AllPass (λ j update. Grows a values factor update) rule.updates

-- an update, whose variable has this place, is the first to leave the range
pub record UpdateOutOfRange (a : Automaton) (rule : Rule) (factor : ℤ) (values : List ℤ) (place : ℕ) : Type 0 where
  pub number : ℕ
  pub first : StopsAt (λ j update. Grows a values factor update) (λ j update. ¬ Grows a values factor update) rule.updates number
  pub place_is : place ≡ length a.parameters + first.item.0

-- the shared variables after some firings, at their places, and all else as it was
abbrev pub shifted : Automaton → Rule → ℤ → List ℤ → ℕ → ℤ
shifted a rule times values place = point_of values place +ℤ (times *ℤ shared_change a rule place)

-- where fall guards are evaluated: before the last of the firings
abbrev pub before_last : Automaton → Rule → ℤ → List ℤ → ℕ → ℤ
before_last a rule factor values = shifted a rule (factor -ℤ pos 1) values

-- each guard of the rule passes: rise guards at the old values, fall guards before the last firing
pub record GuardsPass (a : Automaton) (rule : Rule) (factor : ℤ) (values : List ℤ) : Type 0 where
  pub rise : MaskedPass (point_of values) rule.rise a.rise
  pub fall : MaskedPass (before_last a rule factor values) rule.fall a.fall

-- the first check that fails: the count, then the updates, then the guards
abbrev pub StepFails : Automaton → Rule → ℤ → List ℤ → StepFault → Type 0
StepFails a rule factor values Count = ¬ Enough a rule factor values
StepFails a rule factor values (OutOfRange place) =
    Enough a rule factor values
    × (UpdateOutOfRange a rule factor values place ⊎
    (AllGrow a rule factor values ×
    ((guard : ℕ) × (place ≡ places_of a + guard) × BadGuard a rule (point_of values) (before_last a rule factor values) RowOutOfRange guard)))
StepFails a rule factor values (Guard guard) =
    Enough a rule factor values × AllGrow a rule factor values × BadGuard a rule (point_of values) (before_last a rule factor values) RowFails guard

-- no check fails, and each place changes by the rule, as many times as the factor says
pub record StepIsTaken (a : Automaton) (rule : Rule) (factor : ℤ) (values after : List ℤ) : Type 0 where
  pub enough : Enough a rule factor values
  pub grow : AllGrow a rule factor values
  pub guards : GuardsPass a rule factor values
  pub places : length after ≡ length values
  pub changed : (place : ℕ) → point_of after place ≡ (point_of values place +ℤ (factor *ℤ rule_change a (Some rule) place))

-- what a step answers, and the values after it
abbrev pub StepAnswer : Automaton → ℕ → ℤ → List ℤ → List ℤ → Result Unit StepFault → Type 0
StepAnswer a r factor values after (Ok done) =
    (rule : Rule) → slice_get a.rules r ≡ Some rule → StepIsTaken a rule factor values after
StepAnswer a r factor values after (Err fault) =
    (rule : Rule) → slice_get a.rules r ≡ Some rule → StepFails a rule factor values fault

-- if a count or a guard refuses, this many steps in a row are not legal
abbrev pub NoSteps : Automaton → ℕ → ℤ → Config → StepFault → Type 0
NoSteps a r factor c Count = (after : runs.Config) → ¬ Fires a r (unsigned_abs factor) (config_of a c) after
NoSteps a r factor c (Guard guard) = (after : runs.Config) → ¬ Fires a r (unsigned_abs factor) (config_of a c) after
NoSteps a r factor c (OutOfRange place) = Unit {0}
