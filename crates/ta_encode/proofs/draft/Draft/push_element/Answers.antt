use Rattle.ta_encode.proofs.Common.{Origin, Draft, Automaton, ◌≡◌, true, false, ◌<◌, ◌^◌, ◌+◌, ◌≤◌, ◌∷◌, length, reverse, arith, sym, ap, ◌∙◌, subst}
use Rattle.ta_encode.proofs.Common.{length-reverse, Element, counts_after, AddsUnknowns, Continues, length-append}
use Rattle.ta_encode.proofs.Drafts.{fired_after, counts_few, draft_few, event_drafted, events_small, fall_drafted, fallen_more, rise_drafted}
use Rattle.ta_encode.proofs.draft.Draft.push_element.Goals.{In_ok-push_firings}
use Rattle.ta_encode.proofs.draft.Draft.push_element.Goals as goal

-- the unknowns with the Counts of the element
counts : (c : In_ok-push_firings) → AddsUnknowns
    (counts_after c.args.origin.now.task.automaton.now c.args.origin.now.task.pattern.now c.args.origin.now.start_mask (reverse c.args.before.now))
    c.args.self.now c.push_firings.new.self
counts c =
    let o = c.args.origin.now in
    fired_after false o c.args.before.now c.allowed_after-allowed.result c.allowed_after-allowed.ensures c.requires.drafted.automaton_is
    c.in_ok-push_firings.ensures

few : (c : In_ok-push_firings) → length c.push_firings.new.self.meanings.items ≤ 80000
few c =
    let o = c.args.origin.now in
    let past = reverse c.args.before.now in
    let counted = counts c in
    let more = counts_after o.task.automaton.now o.task.pattern.now o.start_mask past in
    omega (
      arith,
      c.requires.few,
      length-reverse c.args.before.now,
      draft_few o past c.args.self.now c.requires.drafted,
      ap length counted.unknowns,
      length-append c.args.self.now.meanings.items more,
      counts_few o.task.automaton.now o.task.pattern.now o.start_mask past,
      o.task.narrow.rules,
    )

few_rules : (o : Origin) (draft : Draft) → draft.automaton.now ≡ o.task.automaton.now → length draft.automaton.now.rules ≤ 128
few_rules o draft same = subst (λ (a : Automaton). length a.rules ≤ 128) (sym same) o.task.narrow.rules

pub push_firings-requires : goal.push_firings-requires
push_firings-requires c =
    let most : length c.args.self.now.meanings.items + 128 < 2 ^ 32 = omega
    (arith, c.requires.few, length-reverse c.args.before.now, draft_few c.args.origin.now (reverse c.args.before.now) c.args.self.now c.requires.drafted) in
    record { narrow = few_rules c.args.origin.now c.args.self.now c.requires.drafted.automaton_is; room = most }

pub push_firings-requires-in-Fall : goal.push_firings-requires-in-Fall
push_firings-requires-in-Fall c =
    let most = few (goal.at.push_firings-requires-in-Fall c).In_ok-push_firings in
    let same = ap length c.in_ok-push_falling-in-Fall.ensures.unknowns in
    record {
      narrow = few_rules c.args.origin.now c.push_falling.new.self
          (c.in_ok-push_falling-in-Fall.ensures.automaton ∙ (counts (goal.at.push_firings-requires-in-Fall c).In_ok-push_firings).automaton
          ∙ c.requires.drafted.automaton_is);
      room = omega arith;
    }

pub push_event-requires : goal.push_event-requires
push_event-requires c = record { small = events_small c.args.origin.now.task.automaton.now c.args.origin.now.task.pattern.now c.args.origin.now.task.over }

pub returns-in_ok-push_rise-in-Rise : goal.returns-in_ok-push_rise-in-Rise
returns-in_ok-push_rise-in-Rise c =
    let o = c.args.origin.now in
    let past = reverse c.args.before.now in
    subst (λ (e : Element). Continues o (e ∷ past) c.args.self.now c.push_rise.new.self) (sym c.in-Rise.is)
    (rise_drafted o past c.in-Rise.rise c.fallen_after-fallen.result c.requires.drafted (counts (goal.at.returns-in_ok-push_rise-in-Rise c).In_ok-push_firings)
    c.fallen_after-fallen.ensures c.in_ok-push_rise-in-Rise.ensures)

pub returns-in_ok-push_event-in-Event : goal.returns-in_ok-push_event-in-Event
returns-in_ok-push_event-in-Event c =
    let o = c.args.origin.now in
    let past = reverse c.args.before.now in
    subst (λ (e : Element). Continues o (e ∷ past) c.args.self.now c.push_event.new.self) (sym c.in-Event.is)
    (event_drafted o past c.in-Event.event c.fallen_after-fallen.result c.requires.drafted
    (counts (goal.at.returns-in_ok-push_event-in-Event c).In_ok-push_firings) c.fallen_after-fallen.ensures c.in_ok-push_event-in-Event.ensures)

pub returns-in_ok-push_fallen-in-Fall : goal.returns-in_ok-push_fallen-in-Fall
returns-in_ok-push_fallen-in-Fall c =
    let o = c.args.origin.now in
    let before = c.args.before.now in
    let past = reverse before in
    let falls = c.in-Fall.falls in
    let counted = counts (goal.at.returns-in_ok-push_fallen-in-Fall c).In_ok-push_firings in
    let falling = c.in_ok-push_falling-in-Fall.ensures in
    let singles = fired_after true o before c.allowed_after-allowed.result c.allowed_after-allowed.ensures
    (falling.automaton ∙ counted.automaton ∙ c.requires.drafted.automaton_is) c.in_ok-push_firings-in-Fall.ensures in
    let stand = fallen_more o.start_mask past c.fallen_after-fallen.result falls c.from.result c.from.ensures c.fallen_after-fallen.ensures in
    subst (λ (e : Element). Continues o (e ∷ past) c.args.self.now c.push_fallen.new.self) (sym c.in-Fall.is)
    (fall_drafted o past falls _ c.len-from.result c.requires.drafted counted singles stand (c.len-from.ensures ∙ c.push_firings.new.self.meanings.ok.0) falling
    c.in_ok-push_singles-in-Fall.ensures c.in_ok-push_fallen-in-Fall.ensures)
