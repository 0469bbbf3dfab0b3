-- Why a pair of guards does not join others.
use Rattle.std.specs.Prelude.{ℕ, ℤ, List}
use Rattle.ta_linear.specs.declared.row.System.{System}
use Rattle.ta_automaton.specs.declared.automaton.Automaton.{Automaton}
use Rattle.ta_farkas.specs.Faults.{IsFirstFaultOfLeaf}
use Rattle.ta_farkas.specs.declared.LeafFault.{LeafFault}
use Rattle.ta_implied.specs.Implied.{ImplySystem}
use Rattle.ta_implied.specs.Orders.{MayJoin}
use Rattle.ta_implied.specs.declared.fault.OrderFault.{OrderFault}
use Rattle.ta_implied.specs.declared.fault.OrderFault.TheVariants.{Pair, Leaf, Memory}

-- the first error of multipliers as a leaf of a pair's system
pub record FailsToShow (a : Automaton) (pair : ℕ × ℕ) (ts : List (ℕ × ℤ)) (fault : LeafFault) : Type 0 where
  pub system : System
  pub is : ImplySystem a pair.0 pair.1 system
  pub first : IsFirstFaultOfLeaf system ts fault

-- that a pair may not join is reported before an error of its leaf
abbrev pub IsOrderFault : Automaton → List (ℕ × ℕ) → ℕ × ℕ → List (ℕ × ℤ) → OrderFault → Type 0
IsOrderFault a pairs pair ts Pair = ¬ MayJoin a pairs pair
IsOrderFault a pairs pair ts (Leaf fault) = MayJoin a pairs pair × FailsToShow a pair ts fault
IsOrderFault a pairs pair ts Memory = Unit {0}
