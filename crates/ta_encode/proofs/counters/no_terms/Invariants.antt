use Rattle.ta_encode.proofs.Common.{ℕ, ◌≡◌, [], length, terms_at}
use Rattle.ta_encode.proofs.counters.no_terms.Given as goal

abbrev pub invariant-loop : goal.invariant-loop
invariant-loop l = record {
  long : length l.counters.items ≡ l.counter;
  none : (k : ℕ) → terms_at l.counters.items k ≡ [];
}
