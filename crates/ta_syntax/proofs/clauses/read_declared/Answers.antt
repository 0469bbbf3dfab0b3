use Rattle.ta_syntax.proofs.Common.{◌∙◌, err_is, a_mark, declared_list, list_end, choose, only}
use Rattle.ta_syntax.proofs.ClauseSteps.{declared_absent, took_declared}
use Rattle.ta_syntax.proofs.Steps.{then, past, take_mark, mark_stops, not_chosen, other_mark, halts_by, stops_first}
use Rattle.ta_syntax.specs.declared.tokens.Mark.TheVariants as mark
use Rattle.ta_syntax.proofs.clauses.read_declared.Goals as goal

pub returns-in_err-inner : goal.returns-in_err-inner
returns-in_err-inner g c =
    rw (err_is c.from_residual.result _ c.from_residual.ensures.1)
    (stops_first (a_mark c.args.mark) (choose (only mark.Semicolon) (a_mark mark.Semicolon) (list_end c.args.limit g.T.Item.grammar)) c.args.end
    c.args.tokens.now c.in_err-inner.field-0.0 (mark_stops c.args.mark c.args.end c.args.tokens.now c.in_err-inner.field-0.0 c.in_err-inner.ensures))

pub returns-in-Some : goal.returns-in-Some
returns-in-Some g c = declared_absent g.T.Item.grammar g.T.Item.spelled g.T.Item.stated c.args.limit c.args.mark c.args.tokens.now
    c.in_ok-inner.inner.now c.in-Some.rest.now c.from_vec.result (c.from_vec.ensures ∙ c.new.ensures.items) c.in_ok-inner.ensures
    c.in-Some.ensures

pub returns-in_err-items : goal.returns-in_err-items
returns-in_err-items g c =
    rw (err_is c.from_residual-in_err-items.result _ c.from_residual-in_err-items.ensures.1)
    (halts_by (declared_list c.args.mark c.args.limit g.T.Item.grammar) (list_end c.args.limit g.T.Item.grammar) c.args.end c.in_err-items.field-0.0
    (then (past (take_mark c.args.mark c.in_ok-inner.ensures))
    (not_chosen {c = only mark.Semicolon} {a = a_mark mark.Semicolon} {b = list_end c.args.limit g.T.Item.grammar}
    (other_mark mark.Semicolon c.in_ok-inner.inner.now c.in_default.ensures))) c.in_err-items.ensures)

pub returns : goal.returns
returns g c = took_declared g.T.Item.grammar g.T.Item.spelled g.T.Item.stated c.args.limit c.args.mark c.in_ok-items.items c.args.tokens.now
    c.in_ok-inner.inner.now c.in_ok-items.rest.now c.in_ok-inner.ensures c.in_default.ensures c.in_ok-items.ensures
