use Rattle.ta_links.proofs.PivotedTable.{pivot_done, first_refused}
use Rattle.ta_links.proofs.pivoting.pivot_rows.Goals as goal

pub returns-clause-done : goal.returns-clause-done
returns-clause-done c =
    pivot_done c.args.columns c.args.row c.args.column c.args.entering c.args.heads.now.items c.merge_others.new.heads.items c.turn_row.new.heads.items
    c.args.links.now c.merge_others.new.links c.turn_row.new.links c.requires.row (rw c.in_default.is at c.in_ok-at.ensures.done) c.in_ok-turn_row.ensures

pub returns-in-Some-clause-refused : goal.returns-in-Some-clause-refused
returns-in-Some-clause-refused c = first_refused c.args.columns c.args.row c.args.column c.in-Some.at c.args.heads.now.items c.args.links.now c.requires.row
    (rw c.in-Some.is at c.in_ok-at.ensures.refused)
