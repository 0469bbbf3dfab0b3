-- What `rest_scope` answers: the endings of a file's patterns, or the first rule on a cycle of two or more locations.
use Rattle.std.specs.Prelude.{ℕ, ◌≡◌, ◌↔◌, [], slice_get, Some, IsBitSet}
use Rattle.ta_automaton.specs.declared.automaton.Automaton.{Automaton}
use Rattle.ta_automaton.specs.declared.pattern.Pattern.{Pattern}
use Rattle.ta_automaton.specs.declared.file.File.{File}
use Rattle.ta_scope.specs.LongerCycles.{FirstLongerCycle}
use Rattle.ta_rest.specs.Endings.{Endings}
use Rattle.ta_rest.specs.declared.fault.RestFault.{RestFault}
use Rattle.ta_rest.specs.declared.fault.RestFault.TheVariants.{Cycle, Memory}

-- a file with the endings of another file's patterns, and the mask of the patterns without events
pub record EndingsOf (file ending : File) (mask : ℕ) : Type 0 where
  pub automaton : ending.automaton ≡ file.automaton
  pub patterns : Endings file.patterns ending.patterns
  pub added : (k : ℕ) → IsBitSet mask k ↔ ((p : Pattern) × (slice_get file.patterns k ≡ Some p) × (p.events ≡ []))

-- the first rule on a cycle of two or more locations, or out of memory
abbrev pub RestFaultOf : Automaton → RestFault → Type 0
RestFaultOf a (Cycle number) = FirstLongerCycle a number
RestFaultOf a Memory = Unit {0}
