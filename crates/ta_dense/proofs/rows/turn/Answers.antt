use Rattle.ta_dense.proofs.Common.{◌∙◌, ap, pos, neg_ℤ, ℤ, ◌-ℤ◌, map, length, rules, set, List, to_z-of_z, with_items_is, get_or_read, SFits, w128, zero_minus}
use Rattle.ta_dense.proofs.RowFacts.{row_same}
use Rattle.ta_base.proofs.Integers.{minus_fits}
use Rattle.ta_dense.proofs.rows.turn.Goals as goal

pub returns : goal.returns
returns c =
    let f0 : SFits w128 c.index-denominator.result.now = search rules in
    let f1 : SFits w128 c.args.row.now.denominator = search rules in
    let f2 : SFits w128 c.args.row.now.constant = search rules in
    let f3 : SFits w128 (pos 0 -ℤ c.args.row.now.constant) = minus_fits w128 c.args.row.now.constant c.requires.proper.constant in
    let items = with_items_is c.args.row.now.cells c.negate_cells.new.cells (c.negate_cells.auto.cells ∙ ap length c.deref_mut.ensures.value ∙ search rules) in
    let d = get_or_read c.args.row.now.cells.items c.args.column c.index-denominator.result.now c.requires.column c.index-denominator.ensures (pos 0) in
    simp to_z-of_z record {
      value = row_same c.args.entering _ _ _ _ _ _ d (zero_minus c.args.row.now.constant)
          (ap (λ (cs : List ℤ). set cs c.args.column c.args.row.now.denominator) (items ∙ c.negate_cells.ensures ∙ ap (map neg_ℤ) c.deref_mut.ensures.value));
    }
