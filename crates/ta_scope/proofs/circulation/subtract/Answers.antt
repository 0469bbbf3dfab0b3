use Rattle.ta_scope.proofs.Common.{rules, ◌≡◌, arith, refl, subst, take, get_or, ints, w128, to_z, of_z, each_get_or, SubtractsFrom}
use Rattle.ta_scope.proofs.Taken.{subtracted_none, subtracted_more, subtracted_all, not_subtracted}
use Rattle.ta_scope.proofs.circulation.subtract.Goals as goal

pub loop-number-init : goal.loop-number-init
loop-number-init c =
    let e : c.args.amount ≡ to_z w128 (of_z w128 c.args.amount) = omega (arith, ints) in
    subst (λ z. SubtractsFrom (take 0 c.args.rules.now) z c.args.counts.now c.args.counts.now) e
    (subtracted_none c.args.rules.now c.args.amount c.args.counts.now)

pub overflow_sub-counts : goal.overflow_sub-counts
overflow_sub-counts c =
    let e : to_z w128 (of_z w128 c.args.amount) ≡ c.args.amount = omega (arith, ints) in
    let so_far = subst (λ z. SubtractsFrom (take c.loop-number.number-index c.args.rules.now) z c.args.counts.now c.loop-number.counts) e
    c.loop-number.invariant in
    let w = not_subtracted c.args.rules.now c.args.amount c.args.counts.now c.loop-number.counts c.loop-number.number-index
    (get_or c.args.rules.now c.loop-number.number-index 0) c.requires.distinct c.loop-number-test.true refl so_far c.requires.least in
    let same = w.0 in
    let less = w.1 in
    let natural = c.requires.natural in
    search (rules, arith, ints)

pub loop-number-preserved : goal.loop-number-preserved
loop-number-preserved c =
    let e : to_z w128 (of_z w128 c.args.amount) ≡ c.args.amount = omega (arith, ints) in
    let so_far = subst (λ z. SubtractsFrom (take c.loop-number.number-index c.args.rules.now) z c.args.counts.now c.loop-number.counts) e
    c.loop-number.invariant in
    let w = not_subtracted c.args.rules.now c.args.amount c.args.counts.now c.loop-number.counts c.loop-number.number-index
    (get_or c.args.rules.now c.loop-number.number-index 0) c.requires.distinct c.loop-number-test.true refl so_far c.requires.least in
    let same = w.0 in
    let less = w.1 in
    let natural = c.requires.natural in
    subtracted_more c.args.rules.now _ c.args.counts.now c.loop-number.counts c.loop-number.number-index (get_or c.args.rules.now c.loop-number.number-index 0)
    _ c.requires.distinct c.loop-number-test.true refl
    (each_get_or _ c.args.rules.now c.loop-number.number-index 0 c.requires.within c.loop-number-test.true) c.loop-number.invariant (omega (arith, ints))

pub returns : goal.returns
returns c =
    let e : to_z w128 (of_z w128 c.args.amount) ≡ c.args.amount = omega (arith, ints) in
    let so_far = subst (λ z. SubtractsFrom (take c.loop-number.number-index c.args.rules.now) z c.args.counts.now c.loop-number.counts) e
    c.loop-number.invariant in
    subtracted_all c.args.rules.now c.args.amount c.args.counts.now c.loop-number.counts c.loop-number.number-index (omega arith) so_far
