use Rattle.ta_links.proofs.Common.{pos, get_or, arith, rules, to_z-of_z, SFits, w128}
use Rattle.ta_links.proofs.ColumnSteps.{PutOver, overwriting, next_column, overwritten_more, overwritten_all}
use Rattle.ta_links.proofs.columns.write_columns.Goals as goal

pub loop-column-init : goal.loop-column-init
loop-column-init c = overwriting c.args.links.now c.args.row c.args.list.now c.args.form.now.terms c.requires.sound c.requires.list

pub put-requires-clause-sound : goal.put-requires-clause-sound
put-requires-clause-sound c = c.loop-column.invariant.sound

pub put-requires-clause-row : goal.put-requires-clause-row
put-requires-clause-row c = let a = c.loop-column.invariant.rows in let b = c.requires.row in omega arith

pub put-requires-clause-column : goal.put-requires-clause-column
put-requires-clause-column c = (next_column c.args.links.now c.args.row c.args.list.now c.args.form.now.terms c.loop-column.column-index c.loop-column.left
    c.loop-column.links (0, pos 0) c.loop-column.invariant c.loop-column-test.true).0

pub put-requires-clause-start : goal.put-requires-clause-start
put-requires-clause-start c = (next_column c.args.links.now c.args.row c.args.list.now c.args.form.now.terms c.loop-column.column-index c.loop-column.left
    c.loop-column.links (0, pos 0) c.loop-column.invariant c.loop-column-test.true).1

pub loop-column-preserved : goal.loop-column-preserved
loop-column-preserved c =
    let f : SFits w128 c.coefficient_of-value.result = search rules in
    let e = simp to_z-of_z at c.in_ok-left.ensures in
    let p : PutOver c.loop-column.links c.args.row (get_or c.args.list.now c.loop-column.column-index (0, pos 0)).0 c.coefficient_of-value.result
    c.in_ok-left.left c.put.new.links = record
    { sound = e.sound; rows = e.rows; columns = e.columns; values = e.values; before = e.before; fresh = e.fresh; held = e.held } in
    overwritten_more c.args.links.now c.args.row c.args.list.now c.args.form.now.terms c.loop-column.column-index c.loop-column.left c.loop-column.links
    (0, pos 0) c.coefficient_of-value.result c.in_ok-left.left c.put.new.links c.loop-column.invariant c.loop-column-test.true
    c.coefficient_of-value.ensures.value p

pub returns : goal.returns
returns c =
    let w = c.loop-column.invariant in
    let d = overwritten_all c.args.links.now c.args.row c.args.list.now c.args.form.now.terms c.loop-column.column-index c.loop-column.left c.loop-column.links
    w (omega arith) in
    record {
      sound = w.sound;
      rows = w.rows;
      columns = w.columns;
      others = w.others;
      listed = d.listed;
      rest = d.rest;
      fresh = w.fresh;
      held = w.held;
    }
