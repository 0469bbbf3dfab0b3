use Rattle.ta_counter.proofs.Common.{◌≡◌, ℤ, List, length, places_of, Filling}
use Rattle.ta_counter.proofs.start.fill_counts.Given as goal

abbrev pub invariant-loop-number : goal.invariant-loop-number
invariant-loop-number l = record {
  places : length l.values ≡ places_of l.automaton;
  filling : (parameters : List ℤ) → Filling l.automaton parameters l.counts l.fn.values 0 → Filling l.automaton parameters l.counts l.values l.number;
}
