use Rattle.ta_dense.proofs.Common.{◌≡◌, arith, sym, ◌∙◌, ap, subst, ◌+◌, ◌++◌, ◌∷◌, [], List, get_or, map-append, get_or-map, TableauRow, no_row, IsProper}
use Rattle.ta_dense.proofs.Common.{widened, row_view, views, AreProper, DenseRow}
use Rattle.ta_dense.proofs.DenseFacts.{proper_read}
use Rattle.ta_dense.proofs.SlackRows.{proper-push}
use Rattle.ta_dense.proofs.ExtendFacts.{IsProper-padded, padded_widened, map_take_more}
use Rattle.ta_dense.proofs.extending.widened_rows.Goals as goal

pub raised_variable-basic-requires : goal.raised_variable-basic-requires
raised_variable-basic-requires c =
    let rows = c.args.rows.now in
    let read : row_view c.row-item.result ≡ get_or (views c.args.rows.now) c.loop-row.row-index no_row = ap row_view c.row-item.is
    ∙ sym (get_or-map row_view rows c.loop-row.row-index c.row-item.result no_row c.loop-row-test.true) in
    let same = ap (λ (r : TableauRow). r.basic) read in
    let room = c.requires.room c.loop-row.row-index c.loop-row-test.true in
    omega arith

pub padded_row-requires : goal.padded_row-requires
padded_row-requires c =
    let long = (proper_read c.args.unknowns c.args.rows.now c.loop-row.row-index c.row-item.result c.requires.proper c.loop-row-test.true c.row-item.is).long in
    omega arith

pub loop-row-preserved : goal.loop-row-preserved
loop-row-preserved c =
    let inv = c.loop-row.invariant in
    let u = c.args.unknowns in
    let n = c.args.new in
    let rows = c.args.rows.now in
    let i = c.loop-row.row-index in
    let old = c.loop-row.wide.items in
    let new = c.in_ok-padded_row.field-0 in
    let proper = proper_read u rows i c.row-item.result c.requires.proper c.loop-row-test.true c.row-item.is in
    let items = c.in_ok-push.ensures.items in
    let P : List DenseRow → Type 0 = AreProper (u + n) in
    let same = c.in_ok-padded_row.ensures ∙ padded_widened u n c.raised_variable-basic.result (row_view c.row-item.result) proper.long
    c.raised_variable-basic.ensures in
    record {
      value = ap views items ∙ map-append row_view old (new ∷ []) ∙ ap (λ (xs : List TableauRow). xs ++ row_view new ∷ []) inv.value
          ∙ map_take_more row_view (widened u n) rows i c.row-item.result c.row-item.result (row_view new) c.loop-row-test.true c.row-item.is same;
      proper = subst P (sym items) (proper-push (u + n) old new inv.proper
          (subst (IsProper (u + n)) (sym c.in_ok-padded_row.ensures)
          (IsProper-padded u c.raised_variable-basic.result (u + n) (row_view c.row-item.result) proper (omega arith))));
    }
