use Rattle.ta_meaning.proofs.Common.{◌≡◌, ◌≤◌, take, number_of}
use Rattle.ta_meaning.proofs.numbers.read_number.Given as goal

abbrev pub invariant-digits : goal.invariant-digits
invariant-digits l = record { is : l.number ≡ number_of (take l.digit-index l.digit-items); small : l.number ≤ 1000000000 }
