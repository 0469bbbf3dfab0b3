use Rattle.ta_walk.proofs.Common.{rules, ℤ, ◌+◌, List, take, FitsSigned, sym, subst, w128, to_z-of_z, AreNumbers}
use Rattle.ta_walk.proofs.Vertices.{numbers_more}
use Rattle.ta_walk.proofs.vertex.whole_values.Goals as goal

pub loop-value-preserved : goal.loop-value-preserved
loop-value-preserved c =
    let top : FitsSigned w128 c.value-item.result.top = search rules in
    let bottom : FitsSigned w128 c.value-item.result.bottom = search rules in
    let fits : FitsSigned w128 c.floor_div.result = search rules in
    let more = numbers_more c.args.values.now c.loop-value.numbers.items c.loop-value.value-index c.value-item.result c.floor_div.result
    c.loop-value.invariant c.loop-value-test.true c.value-item.is
    (c.requires c.loop-value.value-index c.loop-value-test.true)
    (simp to_z-of_z at c.floor_div.ensures.low)
    (simp to_z-of_z at c.floor_div.ensures.high) in
    let items = simp to_z-of_z at c.in_ok-push.ensures.items in
    let Are : List ℤ → Type 0 = λ ks. AreNumbers (take (c.loop-value.value-index + 1) c.args.values.now) ks in
    subst Are (sym items) more
