-- Arranged steps are legal, and lead where their counts lead. Source of reordering and acceleration: Konnov, Lazić, Veith, Widder, POPL
-- 2017.
use Rattle.std.specs.Prelude.{ℕ, ℤ, pos, ◌<◌, ◌≡◌, ◌≤ℤ◌, ◌+ℤ◌, ◌*ℤ◌, ◌≤◌, List, [], ◌∷◌, ◌++◌, length, map, flat_map, replicate, unsigned_abs, slice_get, Some}
use Rattle.std.specs.Prelude.{IsBitSet}
use Rattle.ta_base.specs.Sums.{total, times_in}
use Rattle.std.specs.List.{AllByRecursion, range_with_len}
use Rattle.ta_linear.specs.Values.{RowHolds}
use Rattle.ta_linear.specs.declared.row.Row.{Row}
use Rattle.ta_automaton.specs.declared.rule.Rule.{Rule}
use Rattle.ta_automaton.specs.declared.automaton.Automaton.{Automaton}
use Rattle.ta_automaton.specs.Places.{Whole, rule_change, location_place}
use Rattle.ta_automaton.specs.Runs.{Config, value_at, Steps, At, InScope}
use Rattle.ta_scope.specs.Arranged.{AreRuleCounts, ArrangedOf, count_at}

-- the unit steps of a list: each rule as often as its factor says
abbrev pub arranged_steps : List (ℕ × ℤ) → List ℕ
arranged_steps steps = flat_map (λ (step : ℕ × ℤ). replicate (unsigned_abs step.1) step.0) steps

-- the value at a place after some unit steps from a configuration
abbrev pub value_after_steps : Automaton → Config → List ℕ → ℕ → ℤ
value_after_steps a c rules place = value_at c place +ℤ total (λ r. rule_change a (slice_get a.rules r) place) rules

-- the value at a place at the end that counts have from a configuration: what each rule adds there, times its count
abbrev pub value_at_end : Automaton → Config → List ℤ → ℕ → ℤ
value_at_end a c counts place = value_at c place +ℤ total (λ r. rule_change a (slice_get a.rules r) place *ℤ count_at counts r)
    (range_with_len 0 (length a.rules))

-- each guard of some rows that a rule with a count above 0 names holds at a point
abbrev pub GuardsHold : Automaton → List ℤ → (Rule → ℕ) → List Row → (ℕ → ℤ) → Type 0
GuardsHold a counts mask rows point =
    (r : ℕ) (rule : Rule) → slice_get a.rules r ≡ Some rule → pos 1 ≤ℤ count_at counts r
    → (i : ℕ) (row : Row) → slice_get rows i ≡ Some row → IsBitSet (mask rule) i → RowHolds point row

-- a rule's rise guards
abbrev pub rise_mask : Rule → ℕ
rise_mask rule = rule.rise

-- a rule's fall guards
abbrev pub fall_mask : Rule → ℕ
fall_mask rule = rule.fall

-- counts that can be gone through from a configuration by these unit steps: the rise guards of the support hold there, its
-- fall guards hold before the last of the steps, and at the end of the counts no counter is below 0
pub record Passable (a : Automaton) (c : Config) (counts : List ℤ) (steps : List ℕ) : Type 0 where
  pub whole : Whole a c
  pub rise : GuardsHold a counts rise_mask a.rise (value_at c)
  pub fall : (front : List ℕ) (last : ℕ) → steps ≡ front ++ last ∷ [] → GuardsHold a counts fall_mask a.fall (value_after_steps a c front)
  pub natural : (l : ℕ) → l < length a.locations → pos 0 ≤ℤ value_at_end a c counts (location_place a l)

-- unit steps are legal one after another, and their end is the end of the counts
pub record LeadsToEnd (a : Automaton) (c : Config) (counts : List ℤ) (steps : List ℕ) : Type 0 where
  pub later : List Config
  pub legal : Steps a c steps later
  pub last : Config
  pub reached : At c later (length steps) last
  pub whole : Whole a last
  pub values : (place : ℕ) → value_at last place ≡ value_at_end a c counts place

-- arranged steps are legal, and their end is the end of the counts, if the guards of the support hold until before the last step and the
-- counters at the end of the counts are natural
abbrev pub ArrangedStepsAreLegal : Type 0
ArrangedStepsAreLegal =
    (a : Automaton) → InScope a
    → (counts : List ℤ) → AreRuleCounts a counts
    → (steps : List (ℕ × ℤ)) → ArrangedOf a counts steps
    → (c : Config) → Passable a c counts (arranged_steps steps)
    → LeadsToEnd a c counts (arranged_steps steps)

-- the same if the fall guards of the support hold at the end of the counts
abbrev pub ArrangedStepsReachTheEnd : Type 0
ArrangedStepsReachTheEnd =
    (a : Automaton) → InScope a
    → (counts : List ℤ) → AreRuleCounts a counts
    → (steps : List (ℕ × ℤ)) → ArrangedOf a counts steps
    → (c : Config) → Whole a c
    → GuardsHold a counts rise_mask a.rise (value_at c)
    → GuardsHold a counts fall_mask a.fall (value_at_end a c counts)
    → ((l : ℕ) → l < length a.locations → pos 0 ≤ℤ value_at_end a c counts (location_place a l))
    → LeadsToEnd a c counts (arranged_steps steps)

-- counts have one list of arranged steps
abbrev pub ArrangedStepsAreDetermined : Type 0
ArrangedStepsAreDetermined = (a : Automaton) (counts : List ℤ) (xs ys : List (ℕ × ℤ)) → ArrangedOf a counts xs → ArrangedOf a counts ys → xs ≡ ys

-- steps of existing rules, each rule at most once, and each as often as its factor says: at least once, at most its count
pub record StepsWithin (a : Automaton) (counts : List ℤ) (steps : List (ℕ × ℤ)) : Type 0 where
  pub exist : AllByRecursion (λ (step : ℕ × ℤ). step.0 < length a.rules) steps
  pub once : (r : ℕ) → times_in r (map (λ (step : ℕ × ℤ). step.0) steps) ≤ 1
  pub factors : AllByRecursion (λ (step : ℕ × ℤ). (pos 1 ≤ℤ step.1) × (step.1 ≤ℤ count_at counts step.0)) steps

-- arranged steps are such steps within their counts
abbrev pub ArrangedStepsAreWithin : Type 0
ArrangedStepsAreWithin =
    (a : Automaton) → InScope a
    → (counts : List ℤ) → AreRuleCounts a counts
    → (steps : List (ℕ × ℤ)) → ArrangedOf a counts steps
    → StepsWithin a counts steps
