use Rattle.std.proofs.Common.{arith, string_bytes}
use Rattle.ta_smt.proofs.Written.{row_written, rows_written}
use Rattle.ta_smt.proofs.export.push_rows.Goals as goal

pub loop-row-preserved : goal.loop-row-preserved
loop-row-preserved c = row_written c.args.rows.now c.loop-row.row-index c.row-item.result (string_bytes c.loop-row.text) (string_bytes c.push_row.new.text) _
    c.loop-row-test.true c.row-item.is c.in_ok-push_row.ensures c.loop-row.invariant

pub returns : goal.returns
returns c = rows_written c.args.rows.now c.loop-row.row-index (string_bytes c.loop-row.text) _ (omega arith) c.loop-row.invariant
