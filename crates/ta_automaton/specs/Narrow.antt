-- The limits of the lists of an automaton, and those within which the tree of schemas can be walked: it orders every guard.
use Rattle.std.specs.Prelude.{◌≤◌, length}
use Rattle.std.proofs.Props.{props}
use Rattle.ta_base.specs.declared.limits.Limits.{Limits}
use Rattle.ta_automaton.specs.declared.automaton.Automaton.{Automaton}

-- an automaton within a row of limits
pub record IsWithin (l : Limits) (a : Automaton) : Type 0 where
  pub parameters : length a.parameters ≤ l.parameters
  pub shared : length a.shared ≤ l.shared
  pub locations : length a.locations ≤ l.locations
  pub rise : length a.rise ≤ l.rises
  pub fall : length a.fall ≤ l.falls
  pub rules : length a.rules ≤ l.rules

-- an automaton within the narrow limits
pub record IsNarrow (a : Automaton) : Type 0 where
  pub parameters : length a.parameters ≤ 16
  pub shared : length a.shared ≤ 16
  pub locations : length a.locations ≤ 32
  pub rise : length a.rise ≤ 16
  pub fall : length a.fall ≤ 6
  pub rules : length a.rules ≤ 128

pub IsNarrow-prop : (a : Automaton) → IsProp (IsNarrow a)
IsNarrow-prop a = hlevel props
