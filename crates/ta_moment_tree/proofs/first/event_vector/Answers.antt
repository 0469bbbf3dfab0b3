use Rattle.ta_moment_tree.proofs.Common.{ℕ, ◌∙◌, ◌+◌, ◌*◌, List, length, arith, ap, Meaning, Rule}
use Rattle.ta_encode.specs.Unknowns.{start_meanings}
use Rattle.ta_moment_tree.proofs.Beginning.{event_is, event_room, moving_below_of, nothing_small}
use Rattle.ta_moment_tree.proofs.first.event_vector.Goals as goal

pub overflow_mul-first : goal.overflow_mul-first
overflow_mul-first c =
    let room = event_room c.args.plan.now c.requires.plan c.args.event c.as_slice-moving.result.now c.as_slice-starts.result.now c.requires.event
    c.as_slice-moving.ensures.value c.as_slice-starts.ensures in
    omega (arith, room.most, room.few)

pub overflow_add-first : goal.overflow_add-first
overflow_add-first c =
    let room = event_room c.args.plan.now c.requires.plan c.args.event c.as_slice-moving.result.now c.as_slice-starts.result.now c.requires.event
    c.as_slice-moving.ensures.value c.as_slice-starts.ensures in
    omega (arith, room.most, room.few)

pub overflow_cast-first : goal.overflow_cast-first
overflow_cast-first c =
    let room = event_room c.args.plan.now c.requires.plan c.args.event c.as_slice-moving.result.now c.as_slice-starts.result.now c.requires.event
    c.as_slice-moving.ensures.value c.as_slice-starts.ensures in
    omega (arith, room.most, room.few)

pub fresh-requires-clause-numbers : goal.fresh-requires-clause-numbers
fresh-requires-clause-numbers c =
    let room = event_room c.args.plan.now c.requires.plan c.args.event c.as_slice-moving.result.now c.as_slice-starts.result.now c.requires.event
    c.as_slice-moving.ensures.value c.as_slice-starts.ensures in
    omega (arith, room.most, room.few, room.rules)

pub fresh-requires-clause-rules : goal.fresh-requires-clause-rules
fresh-requires-clause-rules c =
    let t = c.args.plan.now.task in
    moving_below_of t.automaton.now t.pattern.now c.as_slice-moving.result.now (length c.as_slice-rules.result.now)
    (c.as_slice-moving.ensures.value ∙ c.requires.plan.moving) (ap (λ (rs : List Rule). length rs) c.as_slice-rules.ensures)

pub fresh-requires-clause-above : goal.fresh-requires-clause-above
fresh-requires-clause-above c = nothing_small 3

pub fresh-requires-clause-beneath : goal.fresh-requires-clause-beneath
fresh-requires-clause-beneath c = nothing_small 3

pub returns-clause-short : goal.returns-clause-short
returns-clause-short c = omega (arith, ap (λ (rs : List Rule). length rs) c.as_slice-rules.ensures, c.in_ok-forms.ensures.count)

pub returns-clause-value : goal.returns-clause-value
returns-clause-value c =
    let t = c.args.plan.now.task in
    let is = c.as_slice-moving.ensures.value ∙ c.requires.plan.moving in
    let begun = ap (λ (ms : List Meaning). length ms) (c.as_slice-starts.ensures ∙ c.requires.plan.starts) in
    event_is t.automaton.now t.pattern.now c.args.event (length c.as_slice-starts.result.now + c.args.event * length c.as_slice-moving.result.now)
    c.as_slice-moving.result.now _ is (ap (λ n. n + c.args.event * length c.as_slice-moving.result.now) begun
    ∙ ap (λ (rs : List ℕ). length (start_meanings t.automaton.now t.pattern.now) + c.args.event * length rs) is) c.in_ok-forms.ensures.value
