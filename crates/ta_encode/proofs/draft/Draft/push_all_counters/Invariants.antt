use Rattle.ta_encode.proofs.Common.{◌≡◌, ◌+◌, filter, has_bit, length, map, not, range_with_len, Adds, counter_row, into_iter_items}
use Rattle.std.specs.Vec.Iter.{into_iter_len}
use Rattle.ta_encode.proofs.CounterRows.{AreFrom}
use Rattle.ta_encode.proofs.draft.Draft.push_all_counters.Given as goal

abbrev pub invariant-loop-counter : goal.invariant-loop-counter
invariant-loop-counter l = record {
  so_far : Adds (λ a ms. map (counter_row a ms) (filter (λ k. not (has_bit l.empty k)) (range_with_len 0 l.location))) l.fn.self l.self;
  rest : AreFrom l.fn.self.automaton.now l.fn.self.meanings.items l.location (into_iter_items l.counter-iterator);
  count : l.location + length (into_iter_items l.counter-iterator) ≡ length l.fn.self.automaton.now.locations;
  long : into_iter_len l.counter-iterator ≡ length (into_iter_items l.counter-iterator);
}
