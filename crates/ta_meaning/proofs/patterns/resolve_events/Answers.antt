use Rattle.ta_meaning.proofs.Common.{List, length, ap, sym, subst, ◌∙◌, arith, into_iter_items, nil_from_length, err_is, TreeEvent, kinds_of}
use Rattle.ta_meaning.proofs.PatternSteps.{EventsTo, events_begin, few_events, events_stop, events_go_on, events_end}
use Rattle.ta_meaning.proofs.patterns.resolve_events.Goals as goal

pub loop-event-init : goal.loop-event-init
loop-event-init c =
    let gives = c.into_iter-event-iterator.ensures.into_iter_gives in
    let start = events_begin (kinds_of c.args.places.now) c.args.events.items c.new-names.result c.new-resolved.result.items c.new-names.ensures
    c.new-resolved.ensures.items in
    record {
      so_far = subst (λ (es : List TreeEvent). EventsTo (kinds_of c.args.places.now) c.args.events.items es c.new-names.result c.new-resolved.result.items)
          (sym gives.0) start;
      long = gives.1 ∙ c.args.events.ok.0 ∙ ap (λ (es : List TreeEvent). length es) (sym gives.0);
    }

pub resolve_event-requires : goal.resolve_event-requires
resolve_event-requires c =
    let xs = c.args.events.items in
    let ns = kinds_of c.args.places.now in
    let here = subst (λ (ys : List TreeEvent). EventsTo ns xs ys c.loop-event.names c.loop-event.resolved.items) c.in-Some.ensures.steps.0
    c.loop-event.invariant.so_far in
    record {
      few = few_events ns xs c.in-Some.event (into_iter_items c.next.new.self) c.loop-event.names c.loop-event.resolved.items here c.requires;
      distinct = c.loop-event.invariant.so_far.distinct;
    }

pub returns-in_err-resolve_event : goal.returns-in_err-resolve_event
returns-in_err-resolve_event c =
    let xs = c.args.events.items in
    let ns = kinds_of c.args.places.now in
    let here = subst (λ (ys : List TreeEvent). EventsTo ns xs ys c.loop-event.names c.loop-event.resolved.items) c.in-Some.ensures.steps.0
    c.loop-event.invariant.so_far in
    rw (err_is c.from_residual.result _ c.from_residual.ensures.1)
    (events_stop ns xs c.in-Some.event (into_iter_items c.next.new.self) c.loop-event.names c.loop-event.resolved.items here
    c.in_err-resolve_event.field-0.0 c.in_err-resolve_event.ensures)

pub loop-event-preserved : goal.loop-event-preserved
loop-event-preserved c =
    let xs = c.args.events.items in
    let ns = kinds_of c.args.places.now in
    let rest = into_iter_items c.next.new.self in
    let steps = c.in-Some.ensures.steps in
    let here = subst (λ (ys : List TreeEvent). EventsTo ns xs ys c.loop-event.names c.loop-event.resolved.items) steps.0 c.loop-event.invariant.so_far in
    record {
      so_far = rw c.in_ok-push.ensures.items
          (events_go_on ns xs c.in-Some.event rest c.loop-event.names c.loop-event.resolved.items here c.resolve_event.new.names c.in_ok-resolve_event.field-0
          c.in_ok-resolve_event.ensures.0 c.in_ok-resolve_event.ensures.1);
      long = omega (arith, steps.1, c.loop-event.invariant.long, ap (λ (es : List TreeEvent). length es) steps.0);
    }

pub returns : goal.returns
returns c =
    let xs = c.args.events.items in
    let ns = kinds_of c.args.places.now in
    let none = nil_from_length (into_iter_items c.loop-event.event-iterator) (sym c.loop-event.invariant.long ∙ c.in-None.ensures.steps.0) in
    events_end ns xs c.loop-event.names c.loop-event.resolved.items c.requires
    (subst (λ (ys : List TreeEvent). EventsTo ns xs ys c.loop-event.names c.loop-event.resolved.items) none c.loop-event.invariant.so_far)
