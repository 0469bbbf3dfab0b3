-- How many rules of a mask lead from one location to another.
use Rattle.std.specs.Prelude.{ℕ, ◌<◌, ◌≤◌, ◌≡◌, ◌⊎◌, ◌↔◌, List, length, slice_get, Some, IsBitSet}
use Rattle.std.specs.List.{AllByRecursion}
use Rattle.ta_automaton.specs.declared.rule.Rule.{Rule}
use Rattle.ta_automaton.specs.declared.automaton.Automaton.{Automaton}
use Rattle.ta_automaton.specs.Runs.{Walk}

-- the fewest rules of a mask that lead from one location to another
pub record Distance (a : Automaton) (rules from to count : ℕ) : Type 0 where
  pub path : List ℕ
  pub walk : Walk a from path to
  pub members : AllByRecursion (IsBitSet rules) path
  pub long : length path ≡ count
  pub fewest : (other : List ℕ) → Walk a from other to → AllByRecursion (IsBitSet rules) other → count ≤ length other

-- a rule of a mask, by its number, leads from a location of a mask of locations to a location
pub record LeadsTo (rules mask location number : ℕ) (rule : Rule) : Type 0 where
  pub member : IsBitSet rules number
  pub from : IsBitSet mask rule.from
  pub to : rule.to ≡ location

-- some rule leads there
pub record SomeRuleEnters (a : Automaton) (rules mask location : ℕ) : Type 0 where
  pub number : ℕ
  pub rule : Rule
  pub named : slice_get a.rules number ≡ Some rule
  pub leads : LeadsTo rules mask location number rule

-- the second mask has the locations of the first, and those to which a rule leads from one of them
abbrev pub AddsNextLocations : Automaton → ℕ → ℕ → ℕ → Type 0
AddsNextLocations a rules mask more = (l : ℕ) → IsBitSet more l ↔ (IsBitSet mask l ⊎ SomeRuleEnters a rules mask l)

-- a rule of a mask that leaves a location and leads to one at a distance from another
pub record IsStep (a : Automaton) (rules from to left number : ℕ) (rule : Rule) : Type 0 where
  pub member : IsBitSet rules number
  pub leaves : rule.from ≡ from
  pub rest : Distance a rules rule.to to left

-- the first such rule
pub record FirstStep (a : Automaton) (rules from to left number : ℕ) : Type 0 where
  pub rule : Rule
  pub named : slice_get a.rules number ≡ Some rule
  pub step : IsStep a rules from to left number rule
  pub first : (q : ℕ) (other : Rule) → q < number → slice_get a.rules q ≡ Some other → ¬ IsStep a rules from to left q other
