use Rattle.ta_simplex.proofs.Common.{◌≡◌, ◌<◌, ◌+◌, length, pos, neg_ℤ, ◌-ℤ◌, arith, rules, sym, ap, ◌∙◌, refl, subst, to_z-of_z, ints, with_items_is, SFits}
use Rattle.ta_simplex.proofs.Common.{w128, zero_minus, InRange, variables, replicate, minus_fits}
use Rattle.ta_simplex.proofs.SlotLemmas.{Filled, fill-first, fill-next}
use Rattle.ta_simplex.proofs.multipliers.slack_multipliers.Goals as goal

pub loop-column-init : goal.loop-column-init
loop-column-init g c =
    let s = c.args.system.now in
    let t = g.D.Dictionary.tableau c.args.dictionary.now in
    let row = c.args.row in
    let h = c.requires.stuck.leaves.below in
    let fd : SFits w128 c.denominator.result = search rules in
    let told = simp to_z-of_z at c.put_slack.ensures in
    let range = c.denominator.ensures.fits in
    let empty : c.in_ok-multipliers.multipliers.items ≡ replicate (length c.args.system.now.rows) (pos 0) = search rules in
    let is = with_items_is c.in_ok-multipliers.multipliers c.put_slack.new.multipliers
    (c.put_slack.auto.multipliers ∙ ap length c.deref_mut.ensures.value ∙ search rules)
    ∙ (rw (c.deref_mut.ensures.value, c.basic.ensures, c.denominator.ensures.value) at told) in
    let positive = (c.requires.dictionary.rows row h).positive in
    let fits = subst InRange c.denominator.ensures.value range in
    subst (Filled s.unknowns (length s.rows) t row 0) (sym is)
    (fill-first (variables s) s.unknowns (length s.rows) t row c.in_ok-multipliers.multipliers.items c.requires.dictionary.basis refl h empty
    (omega (arith, ints, positive)) fits)

pub loop-column-preserved : goal.loop-column-preserved
loop-column-preserved g c =
    let s = c.args.system.now in
    let t = g.D.Dictionary.tableau c.args.dictionary.now in
    let row = c.args.row in
    let column = c.loop-column.column in
    let h = c.requires.stuck.leaves.below in
    let inside : c.loop-column.column < length (g.D.Dictionary.tableau c.args.dictionary.now).non_basic =
    (let e = c.columns-column-end.ensures in let b = c.loop-column-test.true in omega arith) in
    let fc : SFits w128 c.cell-multiplier.result = search rules in
    let range = c.cell-multiplier.ensures.fits in
    let fm : SFits w128 (pos 0 -ℤ c.cell-multiplier.result) = minus_fits w128 c.cell-multiplier.result range in
    let told = simp to_z-of_z at c.put_slack-in-loop-column.ensures in
    let value = zero_minus c.cell-multiplier.result ∙ ap neg_ℤ c.cell-multiplier.ensures.value in
    let is = with_items_is c.loop-column.multipliers c.put_slack-in-loop-column.new.multipliers
    (c.put_slack-in-loop-column.auto.multipliers ∙ ap length c.deref_mut-in-loop-column.ensures.value ∙ search rules)
    ∙ (rw (value, c.deref_mut-in-loop-column.ensures.value, c.non_basic-variable.ensures) at told) in
    let fits = subst InRange c.cell-multiplier.ensures.value range in
    subst (Filled s.unknowns (length s.rows) t row (column + 1)) (sym is)
    (fill-next (variables s) s.unknowns (length s.rows) t row column c.loop-column.multipliers.items c.requires.dictionary.basis refl h inside
    c.requires.stuck.none_enters fits c.loop-column.invariant)
