use Rattle.ta_encode.proofs.Common.{◌≡◌, refl, length, to_z, arith, w128, place_coefficient}
use Rattle.ta_encode.proofs.Running.{product_fits, value_fits, value_more, valued_all}
use Rattle.ta_encode.proofs.line.value_in.Goals as goal

pub overflow_mul-total : goal.overflow_mul-total
overflow_mul-total c = product_fits c.args.terms.now c.loop-place.place-index c.place_coefficient.result c.requires.small c.loop-place-test.true
    c.place_coefficient.ensures.small

pub overflow_add-total : goal.overflow_add-total
overflow_add-total c = value_fits (place_coefficient c.args.automaton.now c.args.meaning) c.args.terms.now c.loop-place.place-index
    (to_z w128 c.loop-place.total-bits) c.place_coefficient.result c.requires.small c.requires.few c.loop-place-test.true c.loop-place.invariant
    c.place_coefficient.ensures.small

pub loop-place-preserved : goal.loop-place-preserved
loop-place-preserved c = value_more (place_coefficient c.args.automaton.now c.args.meaning) c.args.terms.now c.loop-place.place-index
    (to_z w128 c.loop-place.total-bits) c.place_coefficient.result _ c.requires.small c.requires.few c.loop-place-test.true c.loop-place.invariant
    c.place_coefficient.ensures.value c.place_coefficient.ensures.small refl

pub returns-clause-value : goal.returns-clause-value
returns-clause-value c =
    let end : c.loop-place.place-index ≡ length c.args.terms.now =
    (let low = c.loop-place-test.false in let high = c.loop-place.auto.place-index-end in omega arith) in
    valued_all (place_coefficient c.args.automaton.now c.args.meaning) c.args.terms.now c.loop-place.place-index (to_z w128 c.loop-place.total-bits) end
    c.loop-place.invariant

pub returns-clause-small : goal.returns-clause-small
returns-clause-small c =
    let few = c.requires.few in
    let high = c.loop-place.auto.place-index-end in
    let small = c.loop-place.invariant.small in
    omega arith
