use Rattle.ta_dense.proofs.Common.{rules, refl, to_z-of_z, SFits, w128, CombinesInRange}
use Rattle.ta_base.proofs.Options.{SomeIff-same}
use Rattle.ta_dense.proofs.cells.combined.Goals as goal

pub returns : goal.returns
returns c =
    let fp = c.ranges.p in
    let fa = c.ranges.a in
    let fq = c.ranges.q in
    let fc = c.ranges.c in
    let fl : SFits w128 c.in_ok-left.left = search rules in
    let fr : SFits w128 c.in_ok-right.right = search rules in
    let k = simp to_z-of_z at c.in_ok-left.ensures in
    let m = simp to_z-of_z at c.in_ok-right.ensures in
    let n = rw (k.1, m.1) at (simp to_z-of_z at c.minus.ensures) in
    SomeIff-same c.minus.result _ (CombinesInRange c.args.p c.args.a c.args.q c.args.c) _ _ (λ d. record { left = k.0; right = m.0; difference = d })
    (λ f. f.difference) refl n
