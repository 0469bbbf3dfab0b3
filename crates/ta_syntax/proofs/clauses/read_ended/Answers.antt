use Rattle.ta_syntax.proofs.Common.{◌∙◌, err_is, list_end}
use Rattle.ta_syntax.proofs.ClauseSteps.{ended_absent, took_ended}
use Rattle.ta_syntax.proofs.Steps.{maybe_taken, halts_by}
use Rattle.ta_syntax.specs.FileGrammar.{ended}
use Rattle.ta_syntax.proofs.clauses.read_ended.Goals as goal

pub returns-in_default : goal.returns-in_default
returns-in_default g c = ended_absent g.T.Item.grammar g.T.Item.spelled g.T.Item.stated c.args.limit c.args.mark c.args.tokens.now c.from_vec.result
    (c.from_vec.ensures ∙ c.new.ensures.items) c.in_default.ensures

pub returns-in_err-items : goal.returns-in_err-items
returns-in_err-items g c =
    rw (err_is c.from_residual.result _ c.from_residual.ensures.1)
    (halts_by (ended c.args.mark c.args.limit g.T.Item.grammar) (list_end c.args.limit g.T.Item.grammar) c.args.end c.in_err-items.field-0.0
    (maybe_taken c.args.mark c.in-Some.ensures) c.in_err-items.ensures)

pub returns : goal.returns
returns g c = took_ended g.T.Item.grammar g.T.Item.spelled g.T.Item.stated c.args.limit c.args.mark c.in_ok-items.items c.args.tokens.now
    c.in-Some.inner.now c.in_ok-items.rest.now c.in-Some.ensures c.in_ok-items.ensures
