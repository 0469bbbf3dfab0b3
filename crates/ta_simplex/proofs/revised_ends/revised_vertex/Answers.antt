use Rattle.ta_simplex.proofs.Common.{◌+◌, rules, subst, sym, SFits, w128, to_z-of_z, w16, AreRevisedValues}
use Rattle.ta_simplex.proofs.RevisedSlots.{values-push}
use Rattle.ta_simplex.proofs.revised_ends.revised_vertex.Goals as goal

pub loop-unknown-preserved : goal.loop-unknown-preserved
loop-unknown-preserved c =
    let ft : SFits w16 c.value_at-top.result.0 = search rules in
    let fu : SFits w128 c.value_at-top.result.0 = search rules in
    let fb : SFits w16 c.value_at-top.result.1 = search rules in
    let fc : SFits w128 c.value_at-top.result.1 = search rules in
    let items = c.in_ok-push.ensures.items in
    subst (AreRevisedValues c.args.dictionary.now (c.loop-unknown.unknown + 1)) (sym items)
    (values-push c.args.dictionary.now c.loop-unknown.unknown c.loop-unknown.values.items _ (simp to_z-of_z c.value_at-top.ensures.constant)
    (simp to_z-of_z c.value_at-top.ensures.denominator) c.loop-unknown.invariant)
