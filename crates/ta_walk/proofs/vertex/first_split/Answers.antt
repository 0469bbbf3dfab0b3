use Rattle.ta_walk.proofs.Common.{rules, ℤ, FitsSigned, sym, subst, w128, to_z-of_z, SplitsAt}
use Rattle.ta_walk.proofs.Vertices.{splits, whole_more}
use Rattle.ta_walk.proofs.vertex.first_split.Goals as goal

pub returns-in-Some-clause-some : goal.returns-in-Some-clause-some
returns-in-Some-clause-some c =
    let fits : FitsSigned w128 c.in-Some.floor = search rules in
    let values = c.args.values.now in
    let Splits : ℤ → Type 0 = λ z. SplitsAt values c.loop-unknown.unknown z in
    subst Splits (sym (to_z-of_z w128 c.in-Some.floor fits))
    (splits values c.loop-unknown.unknown c.index-values-unknown.result c.in-Some.floor c.loop-unknown.invariant c.loop-unknown-test.true
    c.index-values-unknown.is c.in-Some.ensures.some)

pub loop-unknown-preserved : goal.loop-unknown-preserved
loop-unknown-preserved c =
    whole_more c.args.values.now c.loop-unknown.unknown c.index-values-unknown.result c.loop-unknown.invariant c.loop-unknown-test.true
    c.index-values-unknown.is (search rules)
