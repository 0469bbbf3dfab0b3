use Rattle.ta_revised.proofs.Common.{arith, subst, unsigned_abs, FitsSigned, length, get_or, refl, fits_signed_from_abs, to_z-of_z, length-map, ◌∣◌, w64}
use Rattle.ta_revised.proofs.Common.{TableauRow, unknown_row}
use Rattle.ta_revised.proofs.ScaleFacts.{unknown_at, values_all, values_more, values_none}
use Rattle.ta_revised.proofs.values.values_of.Goals as goal

pub value_of-requires-clause-multiple : goal.value_of-requires-clause-multiple
value_of-requires-clause-multiple c =
    let unknown = get_or c.args.basic.now c.loop-unknown.unknown-index 0 in
    let inside = c.requires.basic.inside c.loop-unknown.unknown-index 0 c.loop-unknown-test.true in
    let at = unknown_at c.args.columns c.args.rows.now unknown c.index-rows-unknown.result _ inside c.index-rows-unknown.is in
    subst (λ (r : TableauRow). unsigned_abs r.denominator ∣ c.args.scale) at
    (c.requires.scale.multiple unknown (omega (arith, length-map c.args.rows.now (unknown_row c.args.columns))))

pub loop-unknown-init : goal.loop-unknown-init
loop-unknown-init c =
    rw (c.in_ok-values.ensures.items_if_clones_equal (λ y e. e))
    (values_none c.args.columns c.args.scale c.args.rows.now c.args.basic.now (length c.args.rows.now) refl)

pub loop-unknown-preserved : goal.loop-unknown-preserved
loop-unknown-preserved c =
    let value = c.value_of.ensures.value in
    let small = c.value_of.ensures.small in
    let inside = c.requires.basic.inside c.loop-unknown.unknown-index 0 c.loop-unknown-test.true in
    let fits : FitsSigned w64 c.value_of.result = fits_signed_from_abs w64 c.value_of.result (omega arith) in
    rw (to_z-of_z w64 c.value_of.result fits)
    (values_more c.args.columns c.args.scale c.args.rows.now c.args.basic.now c.loop-unknown.values.items c.loop-unknown.unknown-index
    c.index-rows-unknown.result _ c.value_of.result inside c.index-rows-unknown.is value small c.loop-unknown.invariant)

pub returns : goal.returns
returns c =
    values_all c.args.columns c.args.scale c.args.rows.now c.args.basic.now c.loop-unknown.values.items c.loop-unknown.unknown-index (omega arith)
    c.requires.basic c.loop-unknown.invariant
