use Rattle.ta_simplex.proofs.Common.{◌<◌, ◌+◌, length, arith, rules, sym, ap, ◌∙◌, subst, to_z-of_z, with_items_is, SFits, w128, variables}
use Rattle.ta_simplex.proofs.ValueLemmas.{ValuesSoFar, values-next}
use Rattle.ta_simplex.proofs.vertex.vertex_of.Goals as goal

pub loop-row-preserved : goal.loop-row-preserved
loop-row-preserved g c =
    let s = c.args.system.now in
    let t = g.D.Dictionary.tableau c.args.dictionary.now in
    let row = c.loop-row.row in
    let inside : c.loop-row.row < length (g.D.Dictionary.tableau c.args.dictionary.now).rows =
    (let e = c.rows-row-end.ensures in let b = c.loop-row-test.true in omega arith) in
    let ft : SFits w128 c.constant.result = search rules in
    let fb : SFits w128 c.denominator.result = search rules in
    let top = to_z-of_z w128 c.constant.result ft ∙ c.constant.ensures.value in
    let bottom = to_z-of_z w128 c.denominator.result fb ∙ c.denominator.ensures.value in
    let is = with_items_is c.loop-row.values c.put_value.new.values (c.put_value.auto.values ∙ ap length c.deref_mut.ensures.value ∙ search rules)
    ∙ (rw (c.deref_mut.ensures.value, c.basic.ensures) at c.put_value.ensures) in
    subst (ValuesSoFar t s.unknowns (row + 1)) (sym is)
    (values-next (variables s) t s.unknowns row c.loop-row.values.items _ c.requires.basis inside top bottom c.loop-row.invariant)
