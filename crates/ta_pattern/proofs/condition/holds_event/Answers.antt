use Rattle.ta_pattern.proofs.Common.{◌<◌, ◌∙◌, sym, ap, subst, length, List, ℤ, arith, Ok, point_of, FirstFalse, EventAnswer, same_Some}
use Rattle.ta_base.proofs.Lists.{read_same}
use Rattle.ta_automaton.specs.declared.pattern.Event.{Event}
use Rattle.ta_pattern.proofs.Agreeing.{event_answer, tells_event}
use Rattle.ta_pattern.proofs.condition.holds_event.Goals as goal

pub returns-clause-answer : goal.returns-clause-answer
returns-clause-answer c =
    let events = c.args.pattern.now.events in
    let event = c.index-as_slice-event.result in
    let count = ap (λ (es : List Event). length es) c.as_slice.ensures in
    let exists : c.args.event < length c.as_slice.result.now = (let e = c.requires.exists in omega arith) in
    let named = read_same events c.as_slice.result.now c.args.event event c.as_slice.ensures exists c.index-as_slice-event.is in
    let told = subst (λ (vs : List ℤ). FirstFalse (point_of vs) event.condition (Ok c.in_ok-failing.failing)) c.values.ensures c.in_ok-failing.ensures.answer in
    λ other at. subst (λ (e : Event). EventAnswer (point_of c.args.config.now.values.items) e.condition (Ok c.is_none.result))
    (same_Some event other (sym named ∙ at))
    (event_answer (point_of c.args.config.now.values.items) event.condition c.in_ok-failing.failing c.is_none.result told c.is_none.ensures)

pub returns-clause-holds : goal.returns-clause-holds
returns-clause-holds c = λ a e at.
    tells_event a e.condition c.args.config.now c.is_none.result (returns-clause-answer c e at)
