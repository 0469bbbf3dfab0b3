use Rattle.ta_encode.proofs.Common.{◌-◌, length, arith, ap, ◌∙◌, to_z_abs, coefficient, one_if}
use Rattle.ta_base.proofs.Totals.{one_if-difference}
use Rattle.ta_encode.proofs.Changes.{change_parameter, change_shared, change_location}
use Rattle.ta_encode.proofs.place.rule_change.Goals as goal

pub returns-then-place-first_shared-clause-value : goal.returns-then-place-first_shared-clause-value
returns-then-place-first_shared-clause-value c =
    let same = ap length c.as_slice.ensures in
    let below = c.if-place-first_shared.true in
    change_parameter c.args.automaton.now c.args.rule.now c.args.place (omega arith)

pub returns-then-place-first_location-clause-value : goal.returns-then-place-first_location-clause-value
returns-then-place-first_location-clause-value c =
    let same = ap length c.as_slice.ensures in
    let plain = to_z_abs c.update_of.result 16000000000 c.update_of.ensures.small (omega arith) in
    let low = c.if-place-first_shared.false in
    let high = c.if-place-first_location.true in
    let first = c.first_location-first_location.ensures in
    plain ∙ change_shared c.args.automaton.now c.args.rule.now c.args.place c.update_of.result (omega arith) (omega arith)
    (c.update_of.ensures.value ∙ ap (λ n. coefficient c.args.rule.now.updates (c.args.place - n)) same)

pub returns-else-place-first_location-clause-value : goal.returns-else-place-first_location-clause-value
returns-else-place-first_location-clause-value c =
    let rule = c.args.rule.now in
    let first = c.first_location-first_location.result in
    let at = c.from-location.ensures in
    let low = c.if-place-first_location.false in
    one_if-difference rule.to rule.from (c.args.place - first) (c.args.place - first) c.one_if.result c.one_if-else-place-first_location.result
    (c.one_if.ensures ∙ ap (λ n. one_if n c.from-location.result) c.from.ensures ∙ ap (one_if rule.to) at)
    (c.one_if-else-place-first_location.ensures ∙ ap (λ n. one_if n c.from-location.result) c.from-else-place-first_location.ensures ∙ ap (one_if rule.from) at)
    ∙ change_location c.args.automaton.now rule c.args.place first c.first_location-first_location.ensures low
