use Rattle.ta_syntax.proofs.Common.{err_is, a_sum, comparison, relations, both, one}
use Rattle.ta_syntax.proofs.Steps.{then, past, also_at, take_relation, relation_stops, halts_by, halts_in, stops_first}
use Rattle.ta_syntax.specs.declared.fault.FileFault.TheVariants as fault
use Rattle.ta_syntax.proofs.items.TreeComparisonItem.read.Goals as goal

pub returns-in_err-left : goal.returns-in_err-left
returns-in_err-left c = rw (err_is c.from_residual.result _ c.from_residual.ensures.1)
    (stops_first a_sum (both (one relations) a_sum) c.args.end c.args.tokens.now c.in_err-left.field-0.0 c.in_err-left.ensures)

pub returns-in_default : goal.returns-in_default
returns-in_default c = halts_in comparison (one relations) a_sum c.args.end (fault.Syntax c.first_offset.result) (past c.in_ok-left.ensures.took)
    (relation_stops c.args.end c.first_offset.result c.in_ok-left.after_left.now c.in_default.ensures c.first_offset.ensures)

pub returns-in_err-right : goal.returns-in_err-right
returns-in_err-right c =
    rw (err_is c.from_residual-in_err-right.result _ c.from_residual-in_err-right.ensures.1)
    (halts_by comparison a_sum c.args.end c.in_err-right.field-0.0
    (then (past c.in_ok-left.ensures.took) (past (take_relation c.in-Some.relation c.in-Some.ensures)))
    c.in_err-right.ensures)

pub returns : goal.returns
returns c = also_at c.args.end c.first_offset-at.result c.first_offset-at.ensures
    (then (past c.in_ok-left.ensures.took) (then (past (take_relation c.in-Some.relation c.in-Some.ensures)) c.in_ok-right.ensures.took))
