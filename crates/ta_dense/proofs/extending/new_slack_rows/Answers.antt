use Rattle.ta_dense.proofs.Common.{arith, sym, ◌∙◌, ap, ◌+◌, ◌++◌, ◌∷◌, [], List, length, subst, take, map-append, length-append, TableauRow, slack_rows}
use Rattle.ta_dense.proofs.Common.{slack_row_of, row_view, views, AreProper, DenseRow}
use Rattle.ta_dense.proofs.ExtendFacts.{dropped_normal}
use Rattle.ta_dense.proofs.SlackRows.{slack_rows-more, proper-push}
use Rattle.ta_dense.proofs.extending.new_slack_rows.Goals as goal

pub slack_row-requires : goal.slack_row-requires
slack_row-requires c = dropped_normal c.args.system.now.unknowns c.args.first c.loop-row.row-index c.args.system.now.rows c.as_slice.result.now
    c.split_at.result.1.now c.row-item.result c.as_slice.ensures c.split_at.ensures.back c.args.system.now.within c.loop-row-test.true c.row-item.is

pub loop-row-preserved : goal.loop-row-preserved
loop-row-preserved c =
    let inv = c.loop-row.invariant in
    let items = c.in_ok-push.ensures.items in
    let u = c.args.system.now.unknowns in
    let list = c.split_at.result.1.now in
    let new = c.in_ok-slack_row.field-0 in
    let old = c.loop-row.rows.items in
    let l = length-append old (new ∷ []) in
    let long = ap (λ (xs : List DenseRow). length xs) items in
    let slack = inv.slack in
    let more = slack_rows-more u (u + c.args.first) list c.loop-row.row-index c.loop-row.slack c.row-item.result c.loop-row-test.true inv.slack in
    let view = c.in_ok-slack_row.ensures.value ∙ ap (slack_row_of u c.loop-row.slack) c.row-item.is in
    let P : List DenseRow → Type 0 = AreProper u in
    record {
      slack = omega arith;
      value = ap views items ∙ map-append row_view old (new ∷ []) ∙ ap (λ (xs : List TableauRow). xs ++ row_view new ∷ []) inv.value
          ∙ ap (λ (x : TableauRow). slack_rows u (u + c.args.first) (take c.loop-row.row-index list) ++ x ∷ []) view ∙ sym more;
      long = omega arith;
      proper = subst P (sym items) (proper-push u old new inv.proper c.in_ok-slack_row.ensures.proper);
    }
