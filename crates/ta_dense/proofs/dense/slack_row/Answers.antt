use Rattle.ta_dense.proofs.Common.{◌≡◌, ℕ, sym, ap, ◌∙◌, refl, subst, rules, length, pos, to_z-of_z, with_items_is, SFits, w128, IsProper, coefficients}
use Rattle.ta_dense.proofs.DenseFacts.{IsProper-slack}
use Rattle.ta_dense.proofs.RowFacts.{row_same}
use Rattle.ta_dense.proofs.dense.slack_row.Goals as goal

value : goal.returns-clause-value
value c =
    let f : SFits w128 c.args.row.now.form.constant = search rules in
    let items = with_items_is c.in_ok-cells.cells c.fill_cells.new.cells (c.fill_cells.auto.cells ∙ ap length c.deref_mut.ensures.value ∙ search rules) in
    let long : length c.deref_mut.result.now ≡ c.args.unknowns = search rules in
    let filled : c.fill_cells.new.cells ≡ coefficients c.args.unknowns c.args.row.now.form.terms =
    c.fill_cells.ensures.value ∙ ap (λ (n : ℕ). coefficients n c.as_slice.result.now) long ∙ ap (coefficients c.args.unknowns) c.as_slice.ensures in
    simp to_z-of_z (row_same c.args.slack (pos 1) (pos 1) c.args.row.now.form.constant c.args.row.now.form.constant _ _ refl refl (items ∙ filled))

pub returns-clause-value : goal.returns-clause-value
returns-clause-value c = value c

pub returns-clause-proper : goal.returns-clause-proper
returns-clause-proper c = subst (IsProper c.args.unknowns) (sym (value c)) (IsProper-slack c.args.unknowns c.args.slack c.args.row.now c.requires)
