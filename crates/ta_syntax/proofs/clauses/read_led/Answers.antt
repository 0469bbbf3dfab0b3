use Rattle.ta_syntax.proofs.Common.{◌∙◌, err_is, items}
use Rattle.ta_syntax.proofs.ClauseSteps.{led_absent, took_led}
use Rattle.ta_syntax.proofs.Steps.{maybe_taken, halts_by}
use Rattle.ta_syntax.specs.FileGrammar.{led}
use Rattle.ta_syntax.proofs.clauses.read_led.Goals as goal

pub returns-in_default : goal.returns-in_default
returns-in_default g c = led_absent g.T.Item.grammar g.T.Item.spelled g.T.Item.stated c.args.limit c.args.mark c.args.tokens.now c.from_vec.result
    (c.from_vec.ensures ∙ c.new.ensures.items) c.in_default.ensures

pub returns-in_err-items : goal.returns-in_err-items
returns-in_err-items g c =
    rw (err_is c.from_residual.result _ c.from_residual.ensures.1)
    (halts_by (led c.args.mark c.args.limit g.T.Item.grammar) (items c.args.limit g.T.Item.grammar) c.args.end c.in_err-items.field-0.0
    (maybe_taken c.args.mark c.in-Some.ensures) c.in_err-items.ensures)

pub returns : goal.returns
returns g c = rw c.from_vec-2.ensures
    (took_led g.T.Item.grammar g.T.Item.spelled g.T.Item.stated c.args.limit c.args.mark c.in_ok-items.items.items c.args.tokens.now c.in-Some.inner.now
    c.in_ok-items.rest.now c.in-Some.ensures c.in_ok-items.ensures)
