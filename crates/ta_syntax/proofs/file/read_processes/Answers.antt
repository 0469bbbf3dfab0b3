use Rattle.ta_syntax.proofs.Common.{err_is, Production, both}
use Rattle.ta_syntax.proofs.Steps.{then, past, also_at, take_mark, mark_stops, halts_by, halts_in, stops_first}
use Rattle.ta_syntax.specs.FileGrammar as grammar
use Rattle.ta_syntax.specs.declared.tokens.Mark.TheVariants as mark
use Rattle.ta_syntax.proofs.file.read_processes.Goals as goal

abbrev rest_2 : Production
rest_2 = grammar.a_mark mark.Semicolon

abbrev rest_1 : Production
rest_1 = both (grammar.a_sum) rest_2

pub returns-in_err-begun : goal.returns-in_err-begun
returns-in_err-begun c = rw (err_is c.from_residual.result _ c.from_residual.ensures.1)
    (stops_first (grammar.a_mark mark.Processes) rest_1 c.args.end c.args.tokens.now c.in_err-begun.field-0.0
    (mark_stops mark.Processes c.args.end c.args.tokens.now c.in_err-begun.field-0.0 c.in_err-begun.ensures))

pub returns-in_err-sum : goal.returns-in_err-sum
returns-in_err-sum c = rw (err_is c.from_residual-in_err-sum.result _ c.from_residual-in_err-sum.ensures.1)
    (halts_in grammar.processes (grammar.a_sum) rest_2 c.args.end c.in_err-sum.field-0.0 (past (take_mark mark.Processes c.in_ok-begun.ensures))
    c.in_err-sum.ensures)

pub returns-in_err-rest : goal.returns-in_err-rest
returns-in_err-rest c = rw (err_is c.from_residual-in_err-rest.result _ c.from_residual-in_err-rest.ensures.1)
    (halts_by grammar.processes (grammar.a_mark mark.Semicolon) c.args.end c.in_err-rest.field-0.0
    (then (past (take_mark mark.Processes c.in_ok-begun.ensures)) (past c.in_ok-sum.ensures.took))
    (mark_stops mark.Semicolon c.args.end c.in_ok-sum.after_sum.now c.in_err-rest.field-0.0 c.in_err-rest.ensures))

pub returns : goal.returns
returns c = record {
  is = c.in_ok-sum.ensures.is;
  shallow = c.in_ok-sum.ensures.shallow;
  took = then (past (take_mark mark.Processes c.in_ok-begun.ensures))
      (then (past (also_at c.args.end c.first_offset-at.result c.first_offset-at.ensures c.in_ok-sum.ensures.took))
      (take_mark mark.Semicolon c.in_ok-rest.ensures));
}
