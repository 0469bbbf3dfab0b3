use Rattle.ta_encode.proofs.Common.{◌≡◌, ◌∙◌, List, length, slice_get, Some, arith, refl, sym, ap, subst, slice_get_read, to_z_abs, rule_change, Rule}
use Rattle.ta_encode.proofs.place.change_of.Goals as goal

pub returns-in-Some-clause-value : goal.returns-in-Some-clause-value
returns-in-Some-clause-value c =
    let plain = to_z_abs c.rule_change.result 17000000000 c.rule_change.ensures.small (omega arith) in
    let found = c.in-Some.ensures.lookup in
    let rule = c.in-Some.rule.now in
    let items = c.as_slice.result.now in
    let at : slice_get c.args.automaton.now.rules c.args.rule ≡ Some rule = subst (λ (rs : List Rule). slice_get rs c.args.rule ≡ Some rule) c.as_slice.ensures
    (slice_get_read items (length items) c.args.rule rule refl found.3.0 found.1) in
    plain ∙ c.rule_change.ensures.value ∙ ap (λ o. rule_change c.args.automaton.now o c.args.place) (sym at)
