-- Walks and cycles along some of an automaton's rules. A mask says which rules: bit r is rule r.
use Rattle.std.specs.Prelude.{ℕ, ◌-◌, ◌^◌, ◌<◌, ◌≡◌, ◌↔◌, List, length, slice_get, slice_index, Some, IsBitSet}
use Rattle.std.specs.List.{AllByRecursion}
use Rattle.ta_automaton.specs.declared.rule.Rule.{Rule}
use Rattle.ta_automaton.specs.declared.automaton.Automaton.{Automaton}
use Rattle.ta_automaton.specs.Runs.{Walk}

-- the mask of all rules
abbrev pub every_rule : ℕ
every_rule = 2 ^ 1024 - 1

-- rules of a mask lead from one location to another
abbrev pub Reaches : Automaton → ℕ → ℕ → ℕ → Type 0
Reaches a rules from to = (walk : List ℕ) × Walk a from walk to × AllByRecursion (IsBitSet rules) walk

-- rules of a mask lead from a rule's target back to its source; a self-loop is a cycle
abbrev pub OnCycle : Automaton → ℕ → Rule → Type 0
OnCycle a rules rule = Reaches a rules rule.to rule.from

-- no rule of a mask lies on a cycle of the mask's rules
abbrev pub NoCycle : Automaton → ℕ → Type 0
NoCycle a rules = (r : ℕ) (rule : Rule) → slice_get a.rules r ≡ Some rule → IsBitSet rules r → ¬ OnCycle a rules rule

-- for each location the mask of the locations to which rules of a mask lead from it
pub record IsReachTable (a : Automaton) (rules : ℕ) (table : List ℕ) : Type 0 where
  pub each_location : length table ≡ length a.locations
  pub exact : (x y : ℕ) → x < length a.locations → IsBitSet (slice_index table x) y ↔ Reaches a rules x y
