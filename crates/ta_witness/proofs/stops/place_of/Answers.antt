use Rattle.ta_witness.proofs.Common.{is_below}
use Rattle.ta_moments.proofs.Common.{List, ℕ, ℤ, ◌≡◌, length, arith, subst, sym, ap, ◌∙◌}
use Rattle.ta_witness.specs.declared.stop.Stop.{Stop}
use Rattle.ta_witness.proofs.Placing.{Behind, placed_here, placed_last, placed_next}
use Rattle.ta_witness.proofs.stops.place_of.Goals as goal

pub returns-then-not-is_below : goal.returns-then-not-is_below
returns-then-not-is_below c =
    let counts = c.args.counts.now in
    placed_here c.args.stops.now counts c.loop-number.number c.index-stops-number.result c.loop-number-test.true c.loop-number.invariant
    (ap (λ (z : Stop). is_below z.counts.items counts) (sym c.index-stops-number.is) ∙ ap (λ (zs : List ℤ). is_below zs counts) (sym c.as_slice.ensures.value)
    ∙ sym c.is_below.ensures ∙ c.if-not-is_below.true)

pub loop-number-preserved : goal.loop-number-preserved
loop-number-preserved c =
    let counts = c.args.counts.now in
    placed_next c.args.stops.now counts c.loop-number.number c.index-stops-number.result c.loop-number-test.true c.loop-number.invariant
    (ap (λ (z : Stop). is_below z.counts.items counts) (sym c.index-stops-number.is) ∙ ap (λ (zs : List ℤ). is_below zs counts) (sym c.as_slice.ensures.value)
    ∙ sym c.is_below.ensures ∙ c.if-not-is_below.false)

pub returns : goal.returns
returns c =
    let low = c.loop-number-test.false in
    let high = c.loop-number.auto.number-end in
    let end : c.loop-number.number ≡ length c.args.stops.now = omega (arith, low, high) in
    placed_last c.args.stops.now c.args.counts.now (subst (λ (j : ℕ). Behind j c.args.counts.now c.args.stops.now) end c.loop-number.invariant)
