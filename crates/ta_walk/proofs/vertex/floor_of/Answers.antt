use Rattle.ta_walk.proofs.Common.{◌≡◌, arith, rules, ℤ, pos, FitsSigned, sym, subst, w128, ints, to_z-of_z, IsAbove}
use Rattle.ta_walk.proofs.Vertices.{rest_whole, rest_above}
use Rattle.ta_walk.proofs.vertex.floor_of.Goals as goal

pub returns-then-rem_euclid-eq0-clause-none : goal.returns-then-rem_euclid-eq0-clause-none
returns-then-rem_euclid-eq0-clause-none c =
    let top : FitsSigned w128 c.args.value.now.top = search rules in
    let bottom : FitsSigned w128 c.args.value.now.bottom = search rules in
    let rest : c.rem_euclid.result ≡ pos 0 = omega (arith, ints) in
    rest_whole c.args.value.now c.rem_euclid.result (simp to_z-of_z at c.rem_euclid.ensures.value) rest

pub returns-else-rem_euclid-eq0-clause-some : goal.returns-else-rem_euclid-eq0-clause-some
returns-else-rem_euclid-eq0-clause-some c =
    let top : FitsSigned w128 c.args.value.now.top = search rules in
    let bottom : FitsSigned w128 c.args.value.now.bottom = search rules in
    let fits : FitsSigned w128 c.floor_div.result = search rules in
    let some : c.rem_euclid.result ≡ pos 0 → ⊥ = λ none. c.if-rem_euclid-eq0.false (omega (arith, ints)) in
    let above : IsAbove c.floor_div.result c.args.value.now =
    rest_above c.args.value.now c.rem_euclid.result c.floor_div.result
    (simp to_z-of_z at c.rem_euclid.ensures.value)
    some
    (simp to_z-of_z at c.floor_div.ensures.low)
    (simp to_z-of_z at c.floor_div.ensures.high)
    in
    let IsFloor : ℤ → Type 0 = λ z. IsAbove z c.args.value.now in
    subst IsFloor (sym (to_z-of_z w128 c.floor_div.result fits)) above
