use Rattle.ta_scope.proofs.Common.{◌≡◌, ◌+◌, arith, refl, sym, ◌∙◌, subst, ints, w128, to_z, of_z}
use Rattle.ta_scope.proofs.Taken.{LeastSoFar, least_first, least_more, least_all}
use Rattle.ta_scope.proofs.circulation.least_count.Goals as goal

pub loop-number-init : goal.loop-number-init
loop-number-init c = least_first c.args.counts.now c.args.rules.now _ _ c.requires.some refl (omega (arith, ints))

pub loop-number-preserved : goal.loop-number-preserved
loop-number-preserved c =
    let e : c.min-least.result ≡ to_z w128 (of_z w128 c.min-least.result) = omega (arith, ints) in
    subst (LeastSoFar c.args.counts.now c.args.rules.now (c.loop-number.number-index + 1)) (sym c.min-least.ensures.value ∙ e)
    (least_more c.args.counts.now c.args.rules.now c.loop-number.number-index _ _ _ c.loop-number.invariant c.loop-number-test.true refl (omega (arith, ints)))

pub returns : goal.returns
returns c =
    least_all c.args.counts.now c.args.rules.now c.loop-number.number-index (to_z w128 c.loop-number.least-bits) (omega arith) c.loop-number.invariant
