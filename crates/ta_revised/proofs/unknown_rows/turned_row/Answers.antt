use Rattle.ta_revised.proofs.Common.{◌∙◌, ap, length, turned}
use Rattle.ta_revised.proofs.NarrowFacts.{narrow_turned}
use Rattle.ta_revised.proofs.unknown_rows.turned_row.Goals as goal

pub returns-clause-row : goal.returns-clause-row
returns-clause-row c =
    let chosen = c.args.chosen.now in
    let view = c.in_ok-row.ensures.value in
    narrow_turned (length c.args.chosen.now.cells) c.args.column c.args.unknown chosen c.turn_narrow.new.row c.requires.column c.requires.positive
    c.requires.chosen (c.in_ok-turn_narrow.ensures.value ∙ ap (turned c.args.unknown c.args.column) view)
    (c.in_ok-turn_narrow.ensures.bound ∙ c.in_ok-row.ensures.bound)
