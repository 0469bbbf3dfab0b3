use Rattle.ta_syntax.proofs.Common.{err_is, Production, both}
use Rattle.ta_syntax.proofs.Steps.{then, past, take_name, take_mark, name_stops, mark_stops, halts_by, halts_in, stops_first}
use Rattle.ta_syntax.specs.FileGrammar as grammar
use Rattle.ta_syntax.specs.declared.tokens.Mark.TheVariants as mark
use Rattle.ta_syntax.proofs.rules.TreeEventBlock.read.Goals as goal

abbrev rest_3 : Production
rest_3 = grammar.list_end 16 grammar.comparison

abbrev rest_2 : Production
rest_2 = both (grammar.a_mark mark.Colon) rest_3

abbrev rest_1 : Production
rest_1 = both (grammar.led mark.After 8 grammar.a_name) rest_2

pub returns-in_err-name : goal.returns-in_err-name
returns-in_err-name c = rw (err_is c.from_residual.result _ c.from_residual.ensures.1)
    (stops_first (grammar.a_name) rest_1 c.args.end c.args.tokens.now c.in_err-name.field-0.0
    (name_stops c.args.end c.args.tokens.now c.in_err-name.field-0.0 c.in_err-name.ensures))

pub returns-in_err-after : goal.returns-in_err-after
returns-in_err-after c = rw (err_is c.from_residual-in_err-after.result _ c.from_residual-in_err-after.ensures.1)
    (halts_in grammar.event (grammar.led mark.After 8 grammar.a_name) rest_2 c.args.end c.in_err-after.field-0.0
    (past (take_name c.in_ok-name.name.name c.args.end c.in_ok-name.name.at c.in_ok-name.ensures.0 c.in_ok-name.ensures.1)) c.in_err-after.ensures)

pub returns-in_err-after_colon : goal.returns-in_err-after_colon
returns-in_err-after_colon c = rw (err_is c.from_residual-in_err-after_colon.result _ c.from_residual-in_err-after_colon.ensures.1)
    (halts_in grammar.event (grammar.a_mark mark.Colon) rest_3 c.args.end c.in_err-after_colon.field-0.0
    (then (past (take_name c.in_ok-name.name.name c.args.end c.in_ok-name.name.at c.in_ok-name.ensures.0 c.in_ok-name.ensures.1))
    (past c.in_ok-after.ensures.took))
    (mark_stops mark.Colon c.args.end c.in_ok-after.after_names.now c.in_err-after_colon.field-0.0 c.in_err-after_colon.ensures))

pub returns-in_err-condition : goal.returns-in_err-condition
returns-in_err-condition c = rw (err_is c.from_residual-in_err-condition.result _ c.from_residual-in_err-condition.ensures.1)
    (halts_by grammar.event (grammar.list_end 16 grammar.comparison) c.args.end c.in_err-condition.field-0.0
    (then (past (take_name c.in_ok-name.name.name c.args.end c.in_ok-name.name.at c.in_ok-name.ensures.0 c.in_ok-name.ensures.1))
    (then (past c.in_ok-after.ensures.took) (past (take_mark mark.Colon c.in_ok-after_colon.ensures)))) c.in_err-condition.ensures)

pub returns : goal.returns
returns c = then (past (take_name c.in_ok-name.name.name c.args.end c.in_ok-name.name.at c.in_ok-name.ensures.0 c.in_ok-name.ensures.1))
    (then (past c.in_ok-after.ensures.took) (then (past (take_mark mark.Colon c.in_ok-after_colon.ensures)) (c.in_ok-condition.ensures.took)))
