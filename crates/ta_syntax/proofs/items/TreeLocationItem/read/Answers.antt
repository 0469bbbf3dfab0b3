use Rattle.ta_syntax.proofs.Common.{err_is, a_name, maybe, nothing}
use Rattle.ta_syntax.proofs.Steps.{then, past, take_name, name_stops, stops_first, maybe_taken, maybe_skipped}
use Rattle.ta_syntax.specs.declared.tokens.Mark.TheVariants as mark
use Rattle.ta_syntax.proofs.items.TreeLocationItem.read.Goals as goal

pub returns-in_err-name : goal.returns-in_err-name
returns-in_err-name c = rw (err_is c.from_residual.result _ c.from_residual.ensures.1)
    (stops_first a_name (maybe mark.Initial nothing) c.args.end c.args.tokens.now c.in_err-name.field-0.0
    (name_stops c.args.end c.args.tokens.now c.in_err-name.field-0.0 c.in_err-name.ensures))

pub returns-in-Some : goal.returns-in-Some
returns-in-Some c = then (past (take_name c.in_ok-name.name.name c.args.end c.in_ok-name.name.at c.in_ok-name.ensures.0 c.in_ok-name.ensures.1))
    (maybe_taken mark.Initial c.in-Some.ensures)

pub returns : goal.returns
returns c = then (past (take_name c.in_ok-name.name.name c.args.end c.in_ok-name.name.at c.in_ok-name.ensures.0 c.in_ok-name.ensures.1))
    (maybe_skipped mark.Initial c.in_default.ensures)
