-- the narrow limits are one of the rows of limits
use Rattle.ta_automaton.specs.Narrow.{IsNarrow, IsWithin}
use Rattle.ta_automaton.specs.declared.automaton.Automaton.{Automaton}
use Rattle.ta_base.specs.LimitRows.{narrow}

pub narrow_within : (a : Automaton) → IsWithin narrow a → IsNarrow a
narrow_within a within = record {
  parameters = within.parameters;
  shared = within.shared;
  locations = within.locations;
  rise = within.rise;
  fall = within.fall;
  rules = within.rules;
}
