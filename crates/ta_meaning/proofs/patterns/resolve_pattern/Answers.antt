use Rattle.ta_meaning.proofs.Common.{List, map, refl, sym, subst, err_is, plain_event, Event, pattern_name, ResolvedEvents, kinds_of, empty_left}
use Rattle.ta_meaning.proofs.PatternSteps.{pattern_stops_at_head, pattern_stops_at_events, pattern_has_none, pattern_resolved}
use Rattle.ta_meaning.proofs.patterns.resolve_pattern.Goals as goal

pub returns-in_err-head : goal.returns-in_err-head
returns-in_err-head c = rw (err_is c.from_residual.result _ c.from_residual.ensures.1)
    (pattern_stops_at_head (kinds_of c.args.places.now) (map pattern_name c.args.before.now) c.args.pattern c.in_err-head.field-0.0 c.in_err-head.ensures)

pub returns-in_err-events : goal.returns-in_err-events
returns-in_err-events c = rw (err_is c.from_residual-in_err-events.result _ c.from_residual-in_err-events.ensures.1)
    (pattern_stops_at_events (kinds_of c.args.places.now) (map pattern_name c.args.before.now) c.args.pattern c.in_err-events.field-0.0
    c.in_ok-head.ensures.0 (rw c.into_vec.ensures at c.in_err-events.ensures))

pub returns : goal.returns
returns c =
    let ns = kinds_of c.args.places.now in
    let t = c.args.pattern in
    let before = map pattern_name c.args.before.now in
    let read = rw c.into_vec.ensures at c.in_ok-events.ensures in
    let events : ResolvedEvents ns (map plain_event t.events) c.from_vec.result = subst (λ (es : List Event). ResolvedEvents ns (map plain_event t.events) es)
    (sym c.from_vec.ensures) read.1 in (
      pattern_has_none ns before t c.in_ok-head.ensures.0 read.0,
      pattern_resolved ns before t _ _ c.requires (empty_left _ _ c.in_ok-head.ensures.0) refl refl c.in_ok-head.ensures.1.start
          c.in_ok-head.ensures.1.empty events,
    )
