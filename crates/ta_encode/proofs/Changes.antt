-- what a rule adds at a place, by the kind of the place
use Rattle.ta_encode.proofs.Common.{◌≡◌, ◌≢◌, ℕ, ℤ, pos, ◌+◌, ◌-◌, ◌<◌, ◌≤◌, ◌-ℤ◌, List, [], ◌∷◌, length, Some, arith, sym, ap, ◌∙◌, subst, ints}
use Rattle.ta_encode.proofs.Common.{AllByRecursion, coefficient, Automaton, Rule, one_if, location_place, shared_change, rule_change, one_if-shift, one_if-ne}
use Rattle.ta_encode.proofs.Common.{shared_change-parameter, shared_change-shared, shared_change-location}
use Rattle.ta_automaton.specs.Shape.{Update}
use Rattle.ta_encode.proofs.Running.{Small}

moved : (a : Automaton) (rule : Rule) (place : ℕ) → place < length a.parameters + length a.shared
    → (one_if (location_place a rule.to) place -ℤ one_if (location_place a rule.from) place) ≡ pos 0
moved a rule place b =
    let to : location_place a rule.to ≢ place = omega arith in
    let from : location_place a rule.from ≢ place = omega arith in
    omega (arith, ints, one_if-ne (location_place a rule.to) place to, one_if-ne (location_place a rule.from) place from)

pub change_parameter : (a : Automaton) (rule : Rule) (place : ℕ) → place < length a.parameters → pos 0 ≡ rule_change a (Some rule) place
change_parameter a rule place b = omega (arith, ints, moved a rule place (omega arith), shared_change-parameter a rule place b)

pub change_shared : (a : Automaton) (rule : Rule) (place : ℕ) (r : ℤ) → length a.parameters ≤ place → place < length a.parameters + length a.shared
    → r ≡ coefficient rule.updates (place - length a.parameters) → r ≡ rule_change a (Some rule) place
change_shared a rule place r low high e =
    let x = place - length a.parameters in
    let at : length a.parameters + x ≡ place = omega arith in
    let added : shared_change a rule place ≡ coefficient rule.updates x = ap (shared_change a rule) (sym at) ∙ shared_change-shared a rule x (omega arith) in
    omega (arith, ints, moved a rule place high, added, e)

pub change_location : (a : Automaton) (rule : Rule) (place first : ℕ) → first ≡ length a.parameters + length a.shared → first ≤ place
    → (one_if rule.to (place - first) -ℤ one_if rule.from (place - first)) ≡ rule_change a (Some rule) place
change_location a rule place first is low =
    let l = place - first in
    let at : location_place a l ≡ place = omega arith in
    subst (λ k. (one_if rule.to l -ℤ one_if rule.from l) ≡ rule_change a (Some rule) k) at
    (omega (
      arith,
      ints,
      shared_change-location a rule l,
      one_if-shift (length a.parameters + length a.shared) rule.to l,
      one_if-shift
          (length a.parameters + length a.shared) rule.from l,
    ))

pub small_updates : (shared : ℕ) (updates : List (ℕ × ℤ)) → AllByRecursion (Update shared) updates → AllByRecursion Small updates
small_updates shared [] h = tt
small_updates shared (u ∷ us) h = ((let low = h.0.least in let high = h.0.most in omega (arith, ints)), small_updates shared us h.1)
