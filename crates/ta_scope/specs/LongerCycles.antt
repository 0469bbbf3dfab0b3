-- Cycles of two or more locations.
use Rattle.std.specs.Prelude.{ℕ, ◌<◌, ◌≡◌, ◌≢◌, List, slice_get, Some}
use Rattle.std.proofs.Props.{props}
use Rattle.ta_automaton.specs.declared.rule.Rule.{Rule}
use Rattle.ta_automaton.specs.declared.automaton.Automaton.{Automaton}
use Rattle.ta_automaton.specs.Runs.{Walk}

-- a rule on a cycle of two or more locations: it leads from one location to another, and its target leads back to its source
pub record OnLongerCycle (a : Automaton) (rule : Rule) : Type 0 where
  pub apart : rule.from ≢ rule.to
  pub walk : List ℕ
  pub back : Walk a rule.to walk rule.from

-- the number of the first such rule
pub record FirstLongerCycle (a : Automaton) (number : ℕ) : Type 0 where
  pub rule : Rule
  pub named : slice_get a.rules number ≡ Some rule
  pub cycle : OnLongerCycle a rule
  pub first : (q : ℕ) (earlier : Rule) → q < number → slice_get a.rules q ≡ Some earlier → ¬ OnLongerCycle a earlier

-- every cycle of rules is a self-loop
abbrev pub LoopsAlone : Automaton → Type 0
LoopsAlone a = (r : ℕ) (rule : Rule) → slice_get a.rules r ≡ Some rule → (walk : List ℕ) → Walk a rule.to walk rule.from → rule.from ≡ rule.to

pub LoopsAlone-prop : (a : Automaton) → IsProp (LoopsAlone a)
LoopsAlone-prop a = hlevel props
