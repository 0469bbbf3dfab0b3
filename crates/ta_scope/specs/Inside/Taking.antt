-- What the parts of removing circulations answer.
use Rattle.std.specs.Prelude.{ℕ, ℤ, ◌≡◌, List, ◌∷◌, IsBitSet}
use Rattle.ta_automaton.specs.declared.rule.Rule.{Rule}
use Rattle.ta_automaton.specs.declared.automaton.Automaton.{Automaton}
use Rattle.ta_scope.specs.Cycles.{NoCycle}
use Rattle.ta_scope.specs.Arranged.{AreRuleCounts, Support, FirstPath, LeastCycle, AllTakenOut}

-- a list is the least cycle of a mask's rules
pub record IsLeastCycle (a : Automaton) (rules : ℕ) (cycle : List ℕ) : Type 0 where
  pub number : ℕ
  pub back : List ℕ
  pub is : cycle ≡ number ∷ back
  pub least : LeastCycle a rules number back

-- a list is a rule of a mask and the first path from its target back to its source
pub record IsCycleOf (a : Automaton) (rules number : ℕ) (rule : Rule) (cycle : List ℕ) : Type 0 where
  pub back : List ℕ
  pub is : cycle ≡ number ∷ back
  pub member : IsBitSet rules number
  pub path : FirstPath a rules rule.to back rule.from

-- circulations are taken out until the support has no cycle
pub record FullyTakenOut (a : Automaton) (counts rest : List ℤ) : Type 0 where
  pub later : List (List ℤ)
  pub taken_out : AllTakenOut a counts later rest
  pub left : AreRuleCounts a rest
  pub no_cycle : (rules : ℕ) → Support rest rules → NoCycle a rules
