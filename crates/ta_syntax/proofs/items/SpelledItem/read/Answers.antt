use Rattle.ta_syntax.proofs.Common.{err_is}
use Rattle.ta_syntax.proofs.Steps.{take_name, name_stops}
use Rattle.ta_syntax.proofs.items.SpelledItem.read.Goals as goal

pub returns-in_err-name : goal.returns-in_err-name
returns-in_err-name c = rw (err_is c.from_residual.result _ c.from_residual.ensures.1)
    (name_stops c.args.end c.args.tokens.now c.in_err-name.field-0.0 c.in_err-name.ensures)

pub returns : goal.returns
returns c = take_name c.in_ok-name.name.name c.args.end c.in_ok-name.name.at c.in_ok-name.ensures.0 c.in_ok-name.ensures.1
