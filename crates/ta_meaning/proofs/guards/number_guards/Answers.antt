use Rattle.ta_meaning.proofs.Common.{◌+◌, List, drop, subst, err_is, drop_of_length-le, next_item, plain_comparison, TreeComparison, kinds_of}
use Rattle.ta_meaning.proofs.GuardReading.{GuardsReading, number_fits, reading_more, reading_stops, reading_ends}
use Rattle.ta_meaning.proofs.guards.number_guards.Goals as goal

pub returns-in_err-number : goal.returns-in_err-number
returns-in_err-number c =
    let ns = kinds_of c.args.places.now in
    let all = c.args.comparisons.now in
    let i = c.loop-comparison.comparison-index in
    let here = subst (λ (cs : List TreeComparison). GuardsReading c.args.limits.now ns c.args.guards.now c.loop-comparison.guards all cs
    c.loop-comparison.masks)
    (next_item all i c.comparison-item.result c.loop-comparison-test.true c.comparison-item.is) c.loop-comparison.invariant in
    rw (err_is c.from_residual.result _ c.from_residual.ensures.1)
    (reading_stops c.args.limits.now ns c.args.guards.now c.loop-comparison.guards all (drop (i + 1) all) c.comparison-item.result c.loop-comparison.masks
    c.in_err-number.field-0.0 here c.in_err-number.ensures)

pub with_number-masks-requires : goal.with_number-masks-requires
with_number-masks-requires c = number_fits c.args.limits.now (kinds_of c.args.places.now) c.loop-comparison.guards _ (plain_comparison c.comparison-item.result)
    c.in_ok-number.number c.in_ok-number.ensures.1

pub loop-comparison-preserved : goal.loop-comparison-preserved
loop-comparison-preserved c =
    let ns = kinds_of c.args.places.now in
    let all = c.args.comparisons.now in
    let i = c.loop-comparison.comparison-index in
    let here = subst (λ (cs : List TreeComparison). GuardsReading c.args.limits.now ns c.args.guards.now c.loop-comparison.guards all cs
    c.loop-comparison.masks)
    (next_item all i c.comparison-item.result c.loop-comparison-test.true c.comparison-item.is) c.loop-comparison.invariant in
    reading_more c.args.limits.now ns c.args.guards.now c.loop-comparison.guards _ all (drop (i + 1) all) c.comparison-item.result c.loop-comparison.masks
    c.with_number-masks.result c.in_ok-number.number here c.in_ok-number.ensures.0 c.in_ok-number.ensures.1 c.with_number-masks.ensures

pub returns : goal.returns
returns c =
    let all = c.args.comparisons.now in
    reading_ends c.args.limits.now (kinds_of c.args.places.now) c.args.guards.now _ all _ _ (drop_of_length-le all c.loop-comparison-test.false)
    c.loop-comparison.invariant
