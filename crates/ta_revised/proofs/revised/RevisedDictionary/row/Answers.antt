use Rattle.ta_revised.proofs.Common.{◌≡◌, rules, ◌∙◌, ap, sym, subst, length, List, TableauRow, narrow_view, IsScale, unknown_rows, length-map, unknown_row}
use Rattle.std.proofs.lemmas.Result.{IfOk-weaker}
use Rattle.std.proofs.lemmas.Option.{IfSome_then}
use Rattle.ta_revised.proofs.SlackFacts.{viewed, viewed_columns, slack_terms, row_of_slack}
use Rattle.ta_revised.proofs.revised.RevisedDictionary.row.Goals as goal

pub slack_row-requires-clause-terms : goal.slack_row-requires-clause-terms
slack_row-requires-clause-terms c =
    let wide : c.len.result ≡ length c.self.inside.non_basic.items = search rules in
    let rows = viewed c.self.inside c.args.self.now c.len.result c.deref.result.now c.self.view_is wide c.deref.ensures.value in
    let count : c.args.system.now.unknowns ≡ length c.deref.result.now =
    sym c.requires.count ∙ ap length (sym rows) ∙ length-map c.deref.result.now (unknown_row c.len.result) in
    slack_terms c.args.system.now c.as_slice.result.now c.index-as_slice-variable.result c.args.variable (length c.deref.result.now) c.as_slice.ensures
    c.args.system.now.within c.if-variable-system.true c.requires.variable c.index-as_slice-variable.is count

pub slack_row-requires-clause-scale : goal.slack_row-requires-clause-scale
slack_row-requires-clause-scale c =
    let wide : c.len.result ≡ length c.self.inside.non_basic.items = search rules in
    let rows = viewed c.self.inside c.args.self.now c.len.result c.deref.result.now c.self.view_is wide c.deref.ensures.value in
    subst (λ (rs : List TableauRow). IsScale c.args.scale rs) (sym rows) c.requires.scale

pub returns-then-variable-system-clause-value : goal.returns-then-variable-system-clause-value
returns-then-variable-system-clause-value c =
    let wide : c.len.result ≡ length c.self.inside.non_basic.items = search rules in
    let rows = viewed c.self.inside c.args.self.now c.len.result c.deref.result.now c.self.view_is wide c.deref.ensures.value in
    let columns = viewed_columns c.self.inside c.args.self.now c.len.result c.self.view_is wide in
    IfOk-weaker c.slack_row.result _ _ (λ o is. IfSome_then o is (λ r value.
    row_of_slack c.args.scale c.args.system.now c.args.self.now c.args.variable c.len.result (unknown_rows c.len.result c.deref.result.now)
    c.as_slice.result.now c.index-as_slice-variable.result (narrow_view r) rows columns c.as_slice.ensures c.if-variable-system.true c.requires.variable
    c.index-as_slice-variable.is value)) c.slack_row.ensures.value
