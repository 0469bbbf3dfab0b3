use Rattle.ta_encode.proofs.Common.{◌≡◌, ◌≤◌, List, length, slice_get, Some, None, refl, sym, ap, subst, slice_get_read, slice_get_past, ltb-false, event_rows}
use Rattle.ta_automaton.specs.declared.pattern.Event.{Event}
use Rattle.ta_encode.proofs.Adding.{adds_nothing, adds_alike}
use Rattle.ta_encode.proofs.draft.Draft.push_happening.Goals as goal

pub returns-in-None : goal.returns-in-None
returns-in-None c =
    let draft = c.args.self.now in
    let items = c.as_slice.result.now in
    let past : length items ≤ c.args.event = ltb-false c.args.event (length items) (sym c.in-None.ensures.lookup.0) in
    let none : slice_get c.args.pattern.now.events c.args.event ≡ None = subst (λ (es : List Event). slice_get es c.args.event ≡ None) c.as_slice.ensures
    (slice_get_past items c.args.event past) in
    adds_nothing _ draft (ap (event_rows draft.automaton.now draft.meanings.items) none)

pub returns-in_ok-push_condition-in-Some : goal.returns-in_ok-push_condition-in-Some
returns-in_ok-push_condition-in-Some c =
    let draft = c.args.self.now in
    let items = c.as_slice.result.now in
    let found = c.in-Some.ensures.lookup in
    let event = c.in-Some.event.now in
    let at : slice_get c.args.pattern.now.events c.args.event ≡ Some event = subst (λ (es : List Event). slice_get es c.args.event ≡ Some event)
    c.as_slice.ensures (slice_get_read items (length items) c.args.event event refl found.3.0 found.1) in
    adds_alike (sym (ap (event_rows draft.automaton.now draft.meanings.items) at)) c.in_ok-push_condition-in-Some.ensures

pub push_condition-requires : goal.push_condition-requires
push_condition-requires c =
    let items = c.as_slice.result.now in
    let found = c.in-Some.ensures.lookup in
    let event = c.in-Some.event.now in
    let at : slice_get c.args.pattern.now.events c.args.event ≡ Some event = subst (λ (es : List Event). slice_get es c.args.event ≡ Some event)
    c.as_slice.ensures (slice_get_read items (length items) c.args.event event refl found.3.0 found.1) in
    record { small = c.requires.small.small c.args.event event at }
