use Rattle.ta_replay.proofs.Common.{sym, ap, ◌∙◌, arith, below_more, false≢true, name_of}
use Rattle.ta_replay.proofs.NumberedNames.{name_of_item, other_item, no_name_of_item}
use Rattle.ta_replay.proofs.names.find_rule.Goals as goal

pub returns-then-is_called : goal.returns-then-is_called
returns-then-is_called c = name_of_item name_of c.args.rules.now c.loop-i.i c.index-rules-i.result c.args.name.now (omega arith)
    (ap name_of (sym c.index-rules-i.is) ∙ c.is_called.ensures.0 c.if-is_called.true)

pub loop-i-preserved : goal.loop-i-preserved
loop-i-preserved c =
    below_more _ _ c.loop-i.invariant
    (other_item name_of c.args.rules.now c.loop-i.i c.index-rules-i.result c.args.name.now (omega arith)
    (λ e. false≢true (sym c.if-is_called.false ∙ c.is_called.ensures.1 (ap name_of c.index-rules-i.is ∙ e))))

pub returns : goal.returns
returns c = no_name_of_item name_of c.args.rules.now c.loop-i.i c.args.name.now (omega arith) c.loop-i.invariant
