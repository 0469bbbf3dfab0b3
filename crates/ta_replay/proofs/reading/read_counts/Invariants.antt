use Rattle.ta_replay.proofs.Common.{◌≡◌, length, start_slots, ValuesBegun}
use Rattle.ta_replay.proofs.reading.read_counts.Given as goal

abbrev pub invariant-loop-location : goal.invariant-loop-location
invariant-loop-location l = record
    { begun : ValuesBegun (start_slots l.fn.automaton) l.fn.bytes l.values.items l.rest; count : length l.values.items ≡ l.location-index }
