use Rattle.ta_implied.proofs.Copying.{row_copied}
use Rattle.ta_implied.proofs.system.push_rows.Goals as goal

pub loop-row-preserved : goal.loop-row-preserved
loop-row-preserved c =
    let l = c.loop-row in
    row_copied c.args.some.now l.row-index c.row-item.result c.in_ok-copy_row.field-0 c.args.rows.now.items l.rows.items c.push.new.self.items
    c.loop-row-test.true c.row-item.is l.invariant c.in_ok-copy_row.ensures c.in_ok-push.ensures.items
