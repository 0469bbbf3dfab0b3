use Rattle.ta_syntax.proofs.Common.{err_is, Limits, Production, both}
use Rattle.ta_syntax.proofs.Steps.{then, past, take_mark, mark_stops, halts_by, halts_in, stops_first}
use Rattle.ta_syntax.specs.FileGrammar as grammar
use Rattle.ta_syntax.specs.declared.tokens.Mark.TheVariants as mark
use Rattle.ta_syntax.proofs.rules.TreePatternBlock.read.Goals as goal

abbrev rest_4 : Production
rest_4 = grammar.a_mark mark.CloseBrace

abbrev rest_3 : Production
rest_3 = both (grammar.blocks 8 mark.Event grammar.event) rest_4

abbrev list_2 : Limits → Production
list_2 l = grammar.ended mark.Empty l.locations grammar.a_name

abbrev rest_2 : Limits → Production
rest_2 l = both (list_2 l) rest_3

abbrev rest_1 : Limits → Production
rest_1 l = both (grammar.ended mark.Start 16 grammar.comparison) (rest_2 l)

pub returns-in_err-name : goal.returns-in_err-name
returns-in_err-name c = rw (err_is c.from_residual.result _ c.from_residual.ensures.1)
    (stops_first (both grammar.a_name (grammar.a_mark mark.OpenBrace)) (rest_1 c.args.limits.now) c.args.end c.args.tokens.now c.in_err-name.field-0.0
    c.in_err-name.ensures)

pub returns-in_err-start : goal.returns-in_err-start
returns-in_err-start c = rw (err_is c.from_residual-in_err-start.result _ c.from_residual-in_err-start.ensures.1)
    (halts_in (grammar.pattern c.args.limits.now) (grammar.ended mark.Start 16 grammar.comparison) (rest_2 c.args.limits.now) c.args.end
    c.in_err-start.field-0.0 (past c.in_ok-name.ensures)
    c.in_err-start.ensures)

pub returns-in_err-empty : goal.returns-in_err-empty
returns-in_err-empty c = rw (err_is c.from_residual-in_err-empty.result _ c.from_residual-in_err-empty.ensures.1)
    (halts_in (grammar.pattern c.args.limits.now) (list_2 c.args.limits.now) rest_3 c.args.end c.in_err-empty.field-0.0
    (then (past c.in_ok-name.ensures) (past c.in_ok-start.ensures.took)) c.in_err-empty.ensures)

pub returns-in_err-events : goal.returns-in_err-events
returns-in_err-events c = rw (err_is c.from_residual-in_err-events.result _ c.from_residual-in_err-events.ensures.1)
    (halts_in (grammar.pattern c.args.limits.now) (grammar.blocks 8 mark.Event grammar.event) rest_4 c.args.end c.in_err-events.field-0.0
    (then (past c.in_ok-name.ensures) (then (past c.in_ok-start.ensures.took) (past c.in_ok-empty.ensures.took))) c.in_err-events.ensures)

pub returns-in_err-rest : goal.returns-in_err-rest
returns-in_err-rest c = rw (err_is c.from_residual-in_err-rest.result _ c.from_residual-in_err-rest.ensures.1)
    (halts_by (grammar.pattern c.args.limits.now) (grammar.a_mark mark.CloseBrace) c.args.end c.in_err-rest.field-0.0
    (then (past c.in_ok-name.ensures) (then (past c.in_ok-start.ensures.took) (then (past c.in_ok-empty.ensures.took) (past c.in_ok-events.ensures.took))))
    (mark_stops mark.CloseBrace c.args.end c.in_ok-events.after_events.now c.in_err-rest.field-0.0 c.in_err-rest.ensures))

pub returns : goal.returns
returns c = rw c.from_vec.ensures
    (then (past c.in_ok-name.ensures)
    (then (past c.in_ok-start.ensures.took)
    (then (past c.in_ok-empty.ensures.took) (then (past c.in_ok-events.ensures.took) (take_mark mark.CloseBrace c.in_ok-rest.ensures)))))
