use Rattle.ta_meaning.proofs.Common.{◌≡◌, ◌++◌, map, drop, plain_location, initial_from}
use Rattle.ta_meaning.proofs.file.initial_locations.Given as goal

abbrev pub invariant-loop-number : goal.invariant-loop-number
invariant-loop-number l = l.numbers.items ++ initial_from l.number (map plain_location (drop l.number l.locations)) ≡ initial_from 0
    (map plain_location l.locations)
