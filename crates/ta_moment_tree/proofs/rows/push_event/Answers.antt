use Rattle.ta_moment_tree.proofs.Common.{◌≡◌, ◌≤◌, List, length, slice_get, Some, None, refl, sym, ap, subst, slice_get_read, slice_get_past, ltb-false}
use Rattle.ta_moment_tree.proofs.Common.{event_at, vector_of, Event}
use Rattle.ta_encode.proofs.Drafts.{events_small}
use Rattle.ta_moment_tree.proofs.Adding.{adds_none, adds_same}
use Rattle.ta_moment_tree.proofs.rows.push_event.Goals as goal

pub returns-in-None : goal.returns-in-None
returns-in-None c =
    let t = c.args.plan.now.task in
    let items = c.as_slice.result.now in
    let past : length items ≤ c.args.event = ltb-false c.args.event (length items) (sym c.in-None.ensures.lookup.0) in
    let none : slice_get t.pattern.now.events c.args.event ≡ None = subst (λ (es : List Event). slice_get es c.args.event ≡ None) c.as_slice.ensures
    (slice_get_past items c.args.event past) in
    adds_same _ _ _ _ (sym (ap (event_at t.automaton.now t.pattern.now (vector_of c.args.vector.now)) none)) (adds_none c.args.rows.now.items)

pub push_condition-requires-clause-small : goal.push_condition-requires-clause-small
push_condition-requires-clause-small c =
    let t = c.args.plan.now.task in
    let items = c.as_slice.result.now in
    let found = c.in-Some.ensures.lookup in
    let event = c.in-Some.event.now in
    let at : slice_get t.pattern.now.events c.args.event ≡ Some event = subst (λ (es : List Event). slice_get es c.args.event ≡ Some event) c.as_slice.ensures
    (slice_get_read items (length items) c.args.event event refl found.3.0 found.1) in
    (events_small t.automaton.now t.pattern.now t.over).small c.args.event event at

pub returns-in_ok-push_condition-in-Some : goal.returns-in_ok-push_condition-in-Some
returns-in_ok-push_condition-in-Some c =
    let t = c.args.plan.now.task in
    let items = c.as_slice.result.now in
    let found = c.in-Some.ensures.lookup in
    let event = c.in-Some.event.now in
    let at : slice_get t.pattern.now.events c.args.event ≡ Some event = subst (λ (es : List Event). slice_get es c.args.event ≡ Some event) c.as_slice.ensures
    (slice_get_read items (length items) c.args.event event refl found.3.0 found.1) in
    adds_same _ _ _ _ (sym (ap (event_at t.automaton.now t.pattern.now (vector_of c.args.vector.now)) at)) c.in_ok-push_condition-in-Some.ensures
