use Rattle.ta_syntax.proofs.Common.{err_is, Production, both}
use Rattle.ta_syntax.proofs.Steps.{then, past, take_name, take_mark, name_stops, mark_stops, halts_by, halts_in, stops_first}
use Rattle.ta_syntax.specs.FileGrammar as grammar
use Rattle.ta_syntax.specs.declared.tokens.Mark.TheVariants as mark
use Rattle.ta_syntax.proofs.rules.TreeRuleBlock.read.Goals as goal

abbrev rest_5 : Production
rest_5 = grammar.a_mark mark.Semicolon

abbrev rest_4 : Production
rest_4 = both (grammar.led mark.Do 16 grammar.update) rest_5

abbrev rest_3 : Production
rest_3 = both (grammar.led mark.When 16 grammar.comparison) rest_4

abbrev rest_2 : Production
rest_2 = both (grammar.a_name) rest_3

abbrev rest_1 : Production
rest_1 = both (both grammar.a_name (grammar.a_mark mark.Arrow)) rest_2

pub returns-in_err-name : goal.returns-in_err-name
returns-in_err-name c = rw (err_is c.from_residual.result _ c.from_residual.ensures.1)
    (stops_first (both grammar.a_name (grammar.a_mark mark.Colon)) rest_1 c.args.end c.args.tokens.now c.in_err-name.field-0.0 c.in_err-name.ensures)

pub returns-in_err-from : goal.returns-in_err-from
returns-in_err-from c = rw (err_is c.from_residual-in_err-from.result _ c.from_residual-in_err-from.ensures.1)
    (halts_in grammar.rule (both grammar.a_name (grammar.a_mark mark.Arrow)) rest_2 c.args.end c.in_err-from.field-0.0 (past c.in_ok-name.ensures)
    c.in_err-from.ensures)

pub returns-in_err-to : goal.returns-in_err-to
returns-in_err-to c = rw (err_is c.from_residual-in_err-to.result _ c.from_residual-in_err-to.ensures.1)
    (halts_in grammar.rule (grammar.a_name) rest_3 c.args.end c.in_err-to.field-0.0 (then (past c.in_ok-name.ensures) (past c.in_ok-from.ensures))
    (name_stops c.args.end c.in_ok-from.after_from.now c.in_err-to.field-0.0 c.in_err-to.ensures))

pub returns-in_err-guards : goal.returns-in_err-guards
returns-in_err-guards c = rw (err_is c.from_residual-in_err-guards.result _ c.from_residual-in_err-guards.ensures.1)
    (halts_in grammar.rule (grammar.led mark.When 16 grammar.comparison) rest_4 c.args.end c.in_err-guards.field-0.0
    (then (past c.in_ok-name.ensures)
    (then (past c.in_ok-from.ensures) (past (take_name c.in_ok-to.to.name c.args.end c.in_ok-to.to.at c.in_ok-to.ensures.0 c.in_ok-to.ensures.1))))
    c.in_err-guards.ensures)

pub returns-in_err-updates : goal.returns-in_err-updates
returns-in_err-updates c = rw (err_is c.from_residual-in_err-updates.result _ c.from_residual-in_err-updates.ensures.1)
    (halts_in grammar.rule (grammar.led mark.Do 16 grammar.update) rest_5 c.args.end c.in_err-updates.field-0.0
    (then (past c.in_ok-name.ensures)
    (then (past c.in_ok-from.ensures)
    (then (past (take_name c.in_ok-to.to.name c.args.end c.in_ok-to.to.at c.in_ok-to.ensures.0 c.in_ok-to.ensures.1)) (past c.in_ok-guards.ensures.took))))
    c.in_err-updates.ensures)

pub returns-in_err-rest : goal.returns-in_err-rest
returns-in_err-rest c = rw (err_is c.from_residual-in_err-rest.result _ c.from_residual-in_err-rest.ensures.1)
    (halts_by grammar.rule (grammar.a_mark mark.Semicolon) c.args.end c.in_err-rest.field-0.0
    (then (past c.in_ok-name.ensures)
    (then (past c.in_ok-from.ensures)
    (then (past (take_name c.in_ok-to.to.name c.args.end c.in_ok-to.to.at c.in_ok-to.ensures.0 c.in_ok-to.ensures.1))
    (then (past c.in_ok-guards.ensures.took) (past c.in_ok-updates.ensures.took)))))
    (mark_stops mark.Semicolon c.args.end c.in_ok-updates.after_updates.now c.in_err-rest.field-0.0 c.in_err-rest.ensures))

pub returns : goal.returns
returns c = then (past c.in_ok-name.ensures)
    (then (past c.in_ok-from.ensures)
    (then (past (take_name c.in_ok-to.to.name c.args.end c.in_ok-to.to.at c.in_ok-to.ensures.0 c.in_ok-to.ensures.1))
    (then (past c.in_ok-guards.ensures.took) (then (past c.in_ok-updates.ensures.took) (take_mark mark.Semicolon c.in_ok-rest.ensures)))))
