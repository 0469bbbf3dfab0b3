-- Which guard of a rule refuses a step, and why.
use Rattle.std.specs.Prelude.{ℕ, ℤ, ◌+◌, ◌≡◌, List}
use Rattle.ta_linear.specs.declared.row.Row.{Row}
use Rattle.ta_automaton.specs.declared.rule.Rule.{Rule}
use Rattle.ta_automaton.specs.declared.automaton.Automaton.{Automaton}
use Rattle.ta_counter.specs.declared.fault.StepFault.{StepFault}
use Rattle.ta_counter.specs.declared.fault.StepFault.TheVariants.{Count, OutOfRange, Guard}
use Rattle.ta_counter.specs.Configs.{places_of}
use Rattle.ta_counter.specs.Checks.{RowFails, RowOutOfRange}
use Rattle.ta_counter.specs.Guards.{BadGuard, MaskedStop}

-- how the row of a guard refuses
abbrev pub GuardRowFault : (ℕ → ℤ) → Row → ℕ → ℕ → StepFault → Type 0
GuardRowFault point row places guard Count = ⊥
GuardRowFault point row places guard (OutOfRange place) = (place ≡ places + guard) × RowOutOfRange point row
GuardRowFault point row places guard (Guard number) = (number ≡ guard) × RowFails point row

-- how the rows that a mask names refuse, the first having a guard number
abbrev pub MaskedFault : (ℕ → ℤ) → ℕ → List Row → ℕ → ℕ → StepFault → Type 0
MaskedFault point mask rows places first Count = ⊥
MaskedFault point mask rows places first (OutOfRange place) = (j : ℕ) × (place ≡ places + (first + j)) × MaskedStop point mask (RowOutOfRange point) rows j
MaskedFault point mask rows places first (Guard number) = (j : ℕ) × (number ≡ first + j) × MaskedStop point mask (RowFails point) rows j

-- how the guards of a rule refuse, rise guards at one point and fall guards at another
abbrev pub GuardFault : Automaton → Rule → (ℕ → ℤ) → (ℕ → ℤ) → StepFault → Type 0
GuardFault a rule now last Count = ⊥
GuardFault a rule now last (OutOfRange place) = (guard : ℕ) × (place ≡ places_of a + guard) × BadGuard a rule now last RowOutOfRange guard
GuardFault a rule now last (Guard guard) = BadGuard a rule now last RowFails guard
