use Rattle.ta_replay.proofs.Common.{◌≡◌, length, parameter_slots, ValuesBegun}
use Rattle.ta_replay.proofs.reading.read_parameters.Given as goal

abbrev pub invariant-loop-name : goal.invariant-loop-name
invariant-loop-name l = record {
  begun : ValuesBegun (parameter_slots l.fn.automaton) l.fn.bytes l.values.items l.rest;
  count : length l.values.items ≡
      l.name-index;
}
