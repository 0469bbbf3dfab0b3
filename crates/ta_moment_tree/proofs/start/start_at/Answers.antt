use Rattle.ta_moment_tree.proofs.Common.{◌≡◌, ◌≢◌, ℕ, suc, ◌+◌, ◌<◌, ◌^◌, List, Option, Some, length, slice_get, arith, ap, sym, ◌∙◌, option_map, ◌==◌}
use Rattle.ta_moment_tree.proofs.Common.{eqb-false, slice_get-map, start_of}
use Rattle.ta_moment_tree.proofs.Roots.{event_below, last_events, some_events}
use Rattle.ta_moment_tree.proofs.start.start_at.Goals.{In-None, In-Some}
use Rattle.ta_moment_tree.proofs.start.start_at.Goals as goal

pub overflow_add-result : goal.overflow_add-result
overflow_add-result c =
    let below = event_below c.args.pattern.now c.args.number c.in-Some.event (sym c.last_event.ensures ∙ c.in-Some.is) in
    let few = c.requires in
    let small : c.in-Some.event + 1 < 2 ^ 8 = omega arith in
    record { fits = small }

pub returns-in-None : goal.returns-in-None
returns-in-None c =
    let p = c.args.pattern.now in
    let some : length p.events ≢ 0 = λ none. eqb-false (length p.events) 0
    (ap (λ n. n == 0) (sym (ap length c.as_slice.ensures)) ∙ sym c.is_empty.ensures ∙ c.if-is_empty.false) none in
    sym (ap (λ (cs : List (Option ℕ)). option_map start_of (slice_get cs c.args.number)) (some_events p some)
    ∙ ap (option_map start_of) (slice_get-map Some (last_events p) c.args.number ∙ ap (option_map Some) (sym c.last_event.ensures ∙ c.in-None.is)))

pub returns-in-Some : goal.returns-in-Some
returns-in-Some c =
    let p = c.args.pattern.now in
    let some : length p.events ≢ 0 = λ none. eqb-false (length p.events) 0
    (ap (λ n. n == 0) (sym (ap length c.as_slice.ensures)) ∙ sym c.is_empty.ensures ∙ c.if-is_empty.false) none in
    let next : c.in-Some.event + 1 ≡ suc c.in-Some.event = omega arith in
    ap Some next
    ∙ sym (ap (λ (cs : List (Option ℕ)). option_map start_of (slice_get cs c.args.number)) (some_events p some)
    ∙ ap (option_map start_of) (slice_get-map Some (last_events p) c.args.number ∙ ap (option_map Some) (sym c.last_event.ensures ∙ c.in-Some.is)))
