use Rattle.ta_encode.proofs.Common.{◌≡◌, length, AreCounters}
use Rattle.ta_encode.proofs.counters.counters_at.Given as goal

abbrev pub invariant-loop-unknown : goal.invariant-loop-unknown
invariant-loop-unknown l = record {
  long : length l.counters.items ≡ length l.automaton.locations;
  are : AreCounters l.automaton l.meanings l.unknown l.counters.items;
}
