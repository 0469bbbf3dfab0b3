use Rattle.ta_syntax.proofs.Common.{err_is, Limits, places, Production, both}
use Rattle.ta_syntax.proofs.Steps.{then, past, take_mark, mark_stops, halts_in, stops_first}
use Rattle.ta_syntax.specs.FileGrammar as grammar
use Rattle.ta_syntax.specs.declared.tokens.Mark.TheVariants as mark
use Rattle.ta_syntax.proofs.file.read_names.Goals as goal

abbrev list_2 : Limits → Production
list_2 l = grammar.declared_list mark.Shared l.shared grammar.a_name

abbrev list_1 : Limits → Production
list_1 l = grammar.declared_list mark.Parameters l.parameters grammar.a_name

abbrev rest_3 : Limits → Production
rest_3 l = both (list_2 l) (places l)

abbrev rest_2 : Limits → Production
rest_2 l = both (list_1 l) (rest_3 l)

abbrev rest_1 : Limits → Production
rest_1 l = both (both grammar.a_name (grammar.a_mark mark.Semicolon)) (rest_2 l)

pub returns-in_err-begun : goal.returns-in_err-begun
returns-in_err-begun c = rw (err_is c.from_residual.result _ c.from_residual.ensures.1)
    (stops_first (grammar.a_mark mark.Automaton) (rest_1 c.args.limits.now) c.args.end c.args.tokens.now c.in_err-begun.field-0.0
    (mark_stops mark.Automaton c.args.end c.args.tokens.now c.in_err-begun.field-0.0 c.in_err-begun.ensures))

pub returns-in_err-name : goal.returns-in_err-name
returns-in_err-name c = rw (err_is c.from_residual-in_err-name.result _ c.from_residual-in_err-name.ensures.1)
    (halts_in (grammar.head c.args.limits.now) (both grammar.a_name (grammar.a_mark mark.Semicolon)) (rest_2 c.args.limits.now) c.args.end
    c.in_err-name.field-0.0
    (past (take_mark mark.Automaton c.in_ok-begun.ensures)) c.in_err-name.ensures)

pub returns-in_err-parameters : goal.returns-in_err-parameters
returns-in_err-parameters c = rw (err_is c.from_residual-in_err-parameters.result _ c.from_residual-in_err-parameters.ensures.1)
    (halts_in (grammar.head c.args.limits.now) (list_1 c.args.limits.now) (rest_3 c.args.limits.now) c.args.end c.in_err-parameters.field-0.0
    (then (past (take_mark mark.Automaton c.in_ok-begun.ensures)) (past c.in_ok-name.ensures)) c.in_err-parameters.ensures)

pub returns-in_err-shared : goal.returns-in_err-shared
returns-in_err-shared c = rw (err_is c.from_residual-in_err-shared.result _ c.from_residual-in_err-shared.ensures.1)
    (halts_in (grammar.head c.args.limits.now) (list_2 c.args.limits.now) (places c.args.limits.now) c.args.end c.in_err-shared.field-0.0
    (then (past (take_mark mark.Automaton c.in_ok-begun.ensures)) (then (past c.in_ok-name.ensures) (past c.in_ok-parameters.ensures.took)))
    c.in_err-shared.ensures)

pub returns : goal.returns
returns c = record {
  parameters = c.in_ok-parameters.ensures.few;
  shared = c.in_ok-shared.ensures.few;
  took = then (past (take_mark mark.Automaton c.in_ok-begun.ensures))
      (then (past c.in_ok-name.ensures) (then (past c.in_ok-parameters.ensures.took) (past c.in_ok-shared.ensures.took)));
}
