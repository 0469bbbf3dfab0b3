-- What puts an automaton out of scope: a rule with an update on a cycle. Source: Konnov, Lazić, Veith, Widder, POPL 2017 (canonical
-- threshold automata).
use Rattle.std.specs.Prelude.{ℕ, ◌<◌, ◌≡◌, List, slice_get, Some}
use Rattle.std.proofs.Props.{props}
use Rattle.ta_automaton.specs.declared.rule.Rule.{Rule}
use Rattle.ta_automaton.specs.declared.automaton.Automaton.{Automaton}
use Rattle.ta_automaton.specs.Runs.{Walk, HasUpdate, InScope}
use Rattle.ta_scope.specs.declared.fault.ScopeFault.{ScopeFault}
use Rattle.ta_scope.specs.declared.fault.ScopeFault.TheVariants.{CycleUpdates, Memory}

pub InScope-prop : (a : Automaton) → IsProp (InScope a)
InScope-prop a = hlevel props

-- a rule with an update lies on a cycle; a self-loop is a cycle
pub record AtFault (a : Automaton) (rule : Rule) : Type 0 where
  pub updates : HasUpdate rule
  pub walk : List ℕ
  pub back : Walk a rule.to walk rule.from

-- the number of the first such rule
pub record FirstRuleFault (a : Automaton) (number : ℕ) : Type 0 where
  pub rule : Rule
  pub named : slice_get a.rules number ≡ Some rule
  pub at_fault : AtFault a rule
  pub first : (q : ℕ) (earlier : Rule) → q < number → slice_get a.rules q ≡ Some earlier → ¬ AtFault a earlier

-- the first such rule, or out of memory
abbrev pub ScopeFaultOf : Automaton → ScopeFault → Type 0
ScopeFaultOf a (CycleUpdates number) = FirstRuleFault a number
ScopeFaultOf a Memory = Unit {0}
