use Rattle.ta_syntax.proofs.Common.{sym, ◌∙◌}
use Rattle.ta_syntax.proofs.ListSteps.{past_many, past_wrong}
use Rattle.ta_syntax.proofs.lists.past_limit.Goals as goal

pub returns-then-starts : goal.returns-then-starts
returns-then-starts g c = past_many g.T.Item.grammar c.args.end c.first_offset-at.result c.args.tokens.now (sym c.starts.ensures ∙ c.if-starts.true)
    c.first_offset-at.ensures

pub returns : goal.returns
returns g c = past_wrong g.T.Item.grammar c.args.end c.first_offset-at.result c.args.tokens.now (sym c.starts.ensures ∙ c.if-starts.false)
    c.first_offset-at.ensures
