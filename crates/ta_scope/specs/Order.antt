-- A topological order of an automaton's locations, along some of its rules. A mask says which rules: bit r is rule r.
use Rattle.std.specs.Prelude.{ℕ, ◌<◌, ◌≡◌, ◌≢◌, List, length, take, Contains, slice_get, Some, IsBitSet}
use Rattle.ta_base.specs.Sums.{times_in}
use Rattle.ta_automaton.specs.declared.rule.Rule.{Rule}
use Rattle.ta_automaton.specs.declared.automaton.Automaton.{Automaton}

-- a rule leads to a location from another location that is not placed so far
pub record Blocks (placed : List ℕ) (location : ℕ) (rule : Rule) : Type 0 where
  pub to : rule.to ≡ location
  pub other : rule.from ≢ location
  pub remains : ¬ Contains placed rule.from

-- a remaining location to which no rule of the mask leads from another remaining one
pub record Ready (a : Automaton) (rules : ℕ) (placed : List ℕ) (location : ℕ) : Type 0 where
  pub remains : ¬ Contains placed location
  pub free : (r : ℕ) (rule : Rule) → slice_get a.rules r ≡ Some rule → IsBitSet rules r → ¬ Blocks placed location rule

-- the least such location
pub record Next (a : Automaton) (rules : ℕ) (placed : List ℕ) (location : ℕ) : Type 0 where
  pub exists : location < length a.locations
  pub ready : Ready a rules placed location
  pub least : (l : ℕ) → l < location → ¬ Ready a rules placed l

-- each item is the next location after the items before it
abbrev pub IsBuilt : Automaton → ℕ → List ℕ → Type 0
IsBuilt a rules order = (k l : ℕ) → slice_get order k ≡ Some l → Next a rules (take k order) l

-- each location once: repeatedly the least remaining location to which no rule of the mask leads from another remaining one
pub record IsLocationOrder (a : Automaton) (rules : ℕ) (order : List ℕ) : Type 0 where
  pub each_once : (l : ℕ) → l < length a.locations → times_in l order ≡ 1
  pub built : IsBuilt a rules order
