use Rattle.ta_meaning.proofs.Common.{◌≡◌, ◌+◌, List, length, ap, subst, arith, drop, drop_of_length-le, err_is, next_item, TreeComparison, Comparison}
use Rattle.ta_meaning.proofs.Common.{first_places}
use Rattle.ta_meaning.proofs.ComparedForms.{Resolving, condition_begins, condition_stops, condition_goes_on, condition_ends}
use Rattle.ta_meaning.proofs.conditions.resolve_condition.Goals as goal

pub comparisons-init : goal.comparisons-init
comparisons-init c = condition_begins (first_places c.args.places.now.names c.args.allowed) c.args.comparisons.now c.new-resolved.result.items
    c.new-resolved.ensures.items

pub returns-in_err-resolve_comparison : goal.returns-in_err-resolve_comparison
returns-in_err-resolve_comparison c =
    let s = first_places c.args.places.now.names c.args.allowed in
    let all = c.args.comparisons.now in
    let i = c.comparisons.comparison-index in
    let here = subst (λ (ys : List TreeComparison). Resolving s all ys c.comparisons.resolved.items)
    (next_item all i c.comparison-item.result c.comparisons-test.true c.comparison-item.is) c.comparisons.invariant in
    rw (err_is c.from_residual.result _ c.from_residual.ensures.1)
    (condition_stops s all (drop (i + 1) all) c.comparison-item.result c.comparisons.resolved.items c.in_err-resolve_comparison.field-0.0 here
    c.in_err-resolve_comparison.ensures)

pub comparisons-preserved : goal.comparisons-preserved
comparisons-preserved c =
    let s = first_places c.args.places.now.names c.args.allowed in
    let all = c.args.comparisons.now in
    let i = c.comparisons.comparison-index in
    let here = subst (λ (ys : List TreeComparison). Resolving s all ys c.comparisons.resolved.items)
    (next_item all i c.comparison-item.result c.comparisons-test.true c.comparison-item.is) c.comparisons.invariant in
    rw c.in_ok-push.ensures.items
    (condition_goes_on s all (drop (i + 1) all) c.comparison-item.result c.comparisons.resolved.items c.in_ok-resolve_comparison.field-0 here
    c.in_ok-resolve_comparison.ensures.0 c.in_ok-resolve_comparison.ensures.1)

pub invariant_of-result : goal.invariant_of-result
invariant_of-result c =
    let all = c.args.comparisons.now in
    let had = subst (λ (ys : List TreeComparison). Resolving (first_places c.args.places.now.names c.args.allowed) all ys c.comparisons.resolved.items)
    (drop_of_length-le all c.comparisons-test.false) c.comparisons.invariant in
    let same : length c.from_vec.result ≡ length c.comparisons.resolved.items = ap (λ (ks : List Comparison). length ks) c.from_vec.ensures in
    record { limit = omega (arith, same, had.count, c.requires.few) }

pub returns : goal.returns
returns c =
    let s = first_places c.args.places.now.names c.args.allowed in
    let all = c.args.comparisons.now in
    let had = subst (λ (ys : List TreeComparison). Resolving s all ys c.comparisons.resolved.items) (drop_of_length-le all c.comparisons-test.false)
    c.comparisons.invariant in
    condition_ends s all c.comparisons.resolved.items _ had c.from_vec.ensures
