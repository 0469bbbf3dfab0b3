use Rattle.ta_revised.proofs.Common.{◌≡◌, refl, rules, set, ◌+ℤ◌, pos, get_or, to_z-of_z, row_same}
use Rattle.ta_revised.proofs.SlackFacts.{narrow_plus_cell}
use Rattle.ta_revised.proofs.slack.add_cell.Goals as goal

pub returns-clause-narrow : goal.returns-clause-narrow
returns-clause-narrow c =
    let f = c.ranges.number in
    let sum = c.has_room.new.sum in
    let cells : c.write.new.self ≡ set sum.cells c.args.column (get_or sum.cells c.args.column (pos 0) +ℤ c.args.number) = search rules in
    let abs = simp to_z-of_z at c.unsigned_abs-more.ensures.value in
    let room = c.if-not-has_room.ensures.room in
    narrow_plus_cell _ c.args.column c.args.number sum _ c.if-not-has_room.ensures.narrow c.requires.column
    (row_same sum.basic sum.denominator sum.denominator sum.constant sum.constant _ _ refl refl cells)
    (rw abs refl) room
