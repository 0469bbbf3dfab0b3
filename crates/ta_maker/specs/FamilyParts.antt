-- The parts of an automaton of the family.
use Rattle.std.specs.Prelude.{ℕ, ◌≡◌, List, [], ◌∷◌, codes, map}
use Rattle.std.specs.List.{range_with_len}
use Rattle.ta_syntax.specs.Grammar.{PlainComparison, PlainRule, PlainUpdate}
use Rattle.ta_syntax.specs.PlainTrees.{plain_location, plain_name}
use Rattle.ta_maker.specs.Family.{family, numbered}
use Rattle.ta_maker.specs.declared.family.FamilyHead.{FamilyHead}

-- the names that the automaton of a number declares
pub record IsHead (k : ℕ) (head : FamilyHead) : Type 0 where
  pub name : head.name.name ≡ numbered (codes "family") k
  pub parameters : map plain_name head.parameters ≡ codes "n" ∷ []
  pub shared : map plain_name head.shared ≡ map (numbered (codes "x")) (range_with_len 1 k)
  pub locations : map plain_location head.locations ≡ (family k).locations

-- the rule from the first location to the second with this name, these guards and these updates
abbrev pub rule_with : List ℕ → List PlainComparison → List PlainUpdate → PlainRule
rule_with name guards updates = record { name = name; from = codes "A"; to = codes "B"; guards = guards; updates = updates }
