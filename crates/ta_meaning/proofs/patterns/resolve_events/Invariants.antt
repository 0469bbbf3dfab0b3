use Rattle.ta_meaning.proofs.Common.{◌≡◌, length, into_iter_items, into_iter_len, kinds_of}
use Rattle.ta_meaning.proofs.PatternSteps.{EventsTo}
use Rattle.ta_meaning.proofs.patterns.resolve_events.Given as goal

-- the events before are resolved, and the rest is left
abbrev pub invariant-loop-event : goal.invariant-loop-event
invariant-loop-event l = record {
  so_far : EventsTo (kinds_of l.places) l.fn.events.items (into_iter_items l.event-iterator) l.names l.resolved.items;
  long : into_iter_len l.event-iterator ≡ length (into_iter_items l.event-iterator);
}
