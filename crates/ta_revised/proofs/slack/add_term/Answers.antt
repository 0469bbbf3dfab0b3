use Rattle.ta_revised.proofs.Common.{◌≡◌, ◌<◌, refl, rules, length, subst, to_z-of_z, TableauRow, narrow_view, IsNarrow, UnknownRow, IsUnknownRow, w16, SFits}
use Rattle.std.specs.Prelude.{IfOk}
use Rattle.std.specs.Bool.{OnTrue}
use Rattle.ta_revised.proofs.SlackFacts.{column_added, basic_added}
use Rattle.ta_revised.proofs.slack.add_term.Goals as goal

pub returns-in-Some-clause-value : goal.returns-in-Some-clause-value
returns-in-Some-clause-value c =
    let f = c.ranges.coefficient in
    let g : SFits w16 c.in-Some.factor = search rules in
    let value = simp to_z-of_z at c.in-Some.ensures.value in
    let inside : c.in-Column.column < length c.args.sum.now.cells =
    subst (λ (u : UnknownRow). IsUnknownRow (length c.args.sum.now.cells) u) c.in-Column.is c.requires.row in
    let added = simp to_z-of_z at c.add_cell.ensures.value in
    subst (λ (x : TableauRow). IfOk c.add_cell.result (λ fits. OnTrue fits (narrow_view c.add_cell.new.sum ≡ x)))
    (column_added _ c.in-Column.unknown c.in-Column.column c.args.scale c.args.coefficient c.in-Some.factor c.args.row.now (narrow_view c.args.sum.now)
    c.in-Column.is value inside refl) added

pub returns-in-Some-scaled-clause-value : goal.returns-in-Some-scaled-clause-value
returns-in-Some-scaled-clause-value c =
    let f = c.ranges.coefficient in
    let g : SFits w16 c.in-Some-scaled.factor = search rules in
    let d : SFits w16 c.in-Basic.basic.denominator = search rules in
    let value = simp to_z-of_z at c.in-Some-scaled.ensures.value in
    let narrow : IsNarrow (length c.args.sum.now.cells) c.in-Basic.basic =
    subst (λ (u : UnknownRow). IsUnknownRow (length c.args.sum.now.cells) u) c.in-Basic.is c.requires.row in
    let added = simp to_z-of_z at c.add_row.ensures.value in
    subst (λ (x : TableauRow). IfOk c.add_row.result (λ fits. OnTrue fits (narrow_view c.add_row.new.sum ≡ x)))
    (basic_added _ c.args.scale c.args.coefficient c.in-Some-scaled.factor c.args.row.now c.in-Basic.basic (narrow_view c.args.sum.now)
    c.in-Basic.is value narrow.proper.positive) added
