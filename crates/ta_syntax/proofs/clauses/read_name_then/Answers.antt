use Rattle.ta_syntax.proofs.Common.{err_is, both, a_mark, a_name}
use Rattle.ta_syntax.proofs.Steps.{then, past, take_name, take_mark, name_stops, mark_stops, halts_by, stops_first}
use Rattle.ta_syntax.proofs.clauses.read_name_then.Goals as goal

pub returns-in_err-name : goal.returns-in_err-name
returns-in_err-name c = rw (err_is c.from_residual.result _ c.from_residual.ensures.1)
    (stops_first a_name (a_mark c.args.mark) c.args.end c.args.tokens.now c.in_err-name.field-0.0
    (name_stops c.args.end c.args.tokens.now c.in_err-name.field-0.0 c.in_err-name.ensures))

pub returns-in_err-rest : goal.returns-in_err-rest
returns-in_err-rest c =
    rw (err_is c.from_residual-in_err-rest.result _ c.from_residual-in_err-rest.ensures.1)
    (halts_by (both a_name (a_mark c.args.mark)) (a_mark c.args.mark) c.args.end c.in_err-rest.field-0.0
    (past (take_name c.in_ok-name.name.name c.args.end c.in_ok-name.name.at c.in_ok-name.ensures.0 c.in_ok-name.ensures.1))
    (mark_stops c.args.mark c.args.end c.in_ok-name.after_name.now c.in_err-rest.field-0.0 c.in_err-rest.ensures))

pub returns : goal.returns
returns c = then (past (take_name c.in_ok-name.name.name c.args.end c.in_ok-name.name.at c.in_ok-name.ensures.0 c.in_ok-name.ensures.1))
    (take_mark c.args.mark c.in_ok-rest.ensures)
