use Rattle.ta_implied.proofs.Common.{List, subst, Row, AreCopied}
use Rattle.ta_implied.proofs.Copying.{comparison_copied}
use Rattle.ta_implied.proofs.system.push_condition.Goals as goal

pub loop-comparison-preserved : goal.loop-comparison-preserved
loop-comparison-preserved c =
    let l = c.loop-comparison in
    let test = rw c.as_slice-comparison-items.ensures at c.loop-comparison-test.true in
    let item = rw c.as_slice-comparison-items.ensures at c.comparison-item.is in
    let more = subst (λ (rs : List Row). AreCopied rs l.rows.items c.push_rows.new.rows.items) c.as_slice.ensures c.in_ok-push_rows.ensures in
    comparison_copied c.args.condition.now.comparisons l.comparison-index c.comparison-item.result c.args.rows.now.items l.rows.items c.push_rows.new.rows.items
    test item l.invariant more
