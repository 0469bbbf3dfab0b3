use Rattle.ta_encode.proofs.Common.{◌≡◌, ◌∙◌, List, length, slice_get, Some, refl, ap, subst, slice_get_read, location_place, rule_change, Rule}
use Rattle.ta_encode.proofs.CounterRows.{gain_as, location_change}
use Rattle.ta_encode.proofs.counters.push_fired.Goals as goal

pub returns-in_ok-push_firing-in-Some-clause-gains : goal.returns-in_ok-push_firing-in-Some-clause-gains
returns-in_ok-push_firing-in-Some-clause-gains c = λ l b.
    let a = c.args.automaton.now in
    let found = c.in-Some.ensures.lookup in
    let rule = c.in-Some.rule.now in
    let items = c.as_slice.result.now in
    let there = slice_get_read items (length items) c.args.rule rule refl found.3.0 found.1 in
    let at : slice_get a.rules c.args.rule ≡ Some rule = subst (λ (rs : List Rule). slice_get rs c.args.rule ≡ Some rule) c.as_slice.ensures there in
    let change = ap (λ o. rule_change a o (location_place a l)) at ∙ location_change a rule l in
    gain_as c.args.unknown _ _ _ _ change (c.in_ok-push_firing-in-Some.ensures.gains l b)
