use Rattle.ta_witness.proofs.Common.{rules, ℕ, ℤ, ◌+◌, List, map, take, take_all, FitsSigned, sym, subst, w128, to_z-of_z, Start, unknown_value, AreValues}
use Rattle.ta_witness.proofs.Mapped.{values_read}
use Rattle.ta_witness.proofs.known.starts_of.Goals as goal

pub loop-location-preserved : goal.loop-location-preserved
loop-location-preserved c =
    let fits : FitsSigned w128 c.value_of.result = search rules in
    let items = simp to_z-of_z at c.in_ok-push.ensures.items in
    let value : ℕ → ℤ = λ l. unknown_value c.args.meanings.now c.args.values.now (Start l) in
    let more = values_read value c.args.locations.now c.loop-location.location-index 0 c.value_of.result c.loop-location.numbers.items c.loop-location-test.true
    c.value_of.ensures.is c.value_of.ensures.natural c.loop-location.invariant in
    subst (AreValues (map value (take (c.loop-location.location-index + 1) c.args.locations.now))) (sym items) more

pub returns : goal.returns
returns c =
    let value : ℕ → ℤ = λ l. unknown_value c.args.meanings.now c.args.values.now (Start l) in
    subst (λ (ls : List ℕ). AreValues (map value ls) c.loop-location.numbers.items) (take_all c.loop-location.location-index c.args.locations.now
    c.loop-location-test.false) c.loop-location.invariant
