use Rattle.ta_encode.proofs.Common.{length, reverse, ap, ◌∙◌, ◌∷◌, Element, meanings}
use Rattle.ta_encode.proofs.Counting.{event_length, rise_length, fall_length}
use Rattle.ta_encode.proofs.count.element_count.Goals as goal

pub returns-in-Event-clause-value : goal.returns-in-Event-clause-value
returns-in-Event-clause-value c =
    let p = c.args.task.pattern.now in
    ap (λ (e : Element). length (meanings c.args.task.automaton.now p c.args.start_mask (e ∷ reverse c.args.before.now))) c.in-Event.is
    ∙ event_length c.args.task.automaton.now p c.args.start_mask (reverse c.args.before.now) c.in-Event.field-0 c.allowed_after.result
    (length c.as_slice-rules.result.now) c.firing_count-allowed.result c.allowed_after.ensures (ap length c.as_slice-rules.ensures)
    c.firing_count-allowed.ensures.value

pub returns-in-Rise-clause-value : goal.returns-in-Rise-clause-value
returns-in-Rise-clause-value c =
    let p = c.args.task.pattern.now in
    ap (λ (e : Element). length (meanings c.args.task.automaton.now p c.args.start_mask (e ∷ reverse c.args.before.now))) c.in-Rise.is
    ∙ rise_length c.args.task.automaton.now p c.args.start_mask (reverse c.args.before.now) c.in-Rise.field-0 c.allowed_after.result
    (length c.as_slice-rules.result.now) c.firing_count-allowed.result c.allowed_after.ensures (ap length c.as_slice-rules.ensures)
    c.firing_count-allowed.ensures.value

pub returns-in-Fall-clause-value : goal.returns-in-Fall-clause-value
returns-in-Fall-clause-value c =
    let p = c.args.task.pattern.now in
    ap (λ (e : Element). length (meanings c.args.task.automaton.now p c.args.start_mask (e ∷ reverse c.args.before.now))) c.in-Fall.is
    ∙ fall_length c.args.task.automaton.now p c.args.start_mask (reverse c.args.before.now) c.in-Fall.field-0 c.allowed_after.result
    (length c.as_slice-rules.result.now) c.firing_count-allowed.result c.allowed_after.ensures (ap length c.as_slice-rules.ensures)
    c.firing_count-allowed.ensures.value
