use Rattle.ta_syntax.proofs.Common.{err_is, a_mark, items, list_end}
use Rattle.ta_syntax.proofs.Steps.{then, past, take_mark, mark_stops, halts_by, stops_first}
use Rattle.ta_syntax.specs.declared.tokens.Mark.TheVariants as mark
use Rattle.ta_syntax.proofs.clauses.read_list_end.Goals as goal

pub returns-in_err-items : goal.returns-in_err-items
returns-in_err-items g c = rw (err_is c.from_residual.result _ c.from_residual.ensures.1)
    (stops_first (items c.args.limit g.T.Item.grammar) (a_mark mark.Semicolon) c.args.end c.args.tokens.now c.in_err-items.field-0.0 c.in_err-items.ensures)

pub returns-in_err-rest : goal.returns-in_err-rest
returns-in_err-rest g c =
    rw (err_is c.from_residual-in_err-rest.result _ c.from_residual-in_err-rest.ensures.1)
    (halts_by (list_end c.args.limit g.T.Item.grammar) (a_mark mark.Semicolon) c.args.end c.in_err-rest.field-0.0 (past c.in_ok-items.ensures.took)
    (mark_stops mark.Semicolon c.args.end c.in_ok-items.after_list.now c.in_err-rest.field-0.0 c.in_err-rest.ensures))

pub returns : goal.returns
returns g c = rw c.from_vec.ensures
    (record {
      some = c.in_ok-items.ensures.some;
      few = c.in_ok-items.ensures.few;
      took = then (past c.in_ok-items.ensures.took) (take_mark mark.Semicolon c.in_ok-rest.ensures);
    })
