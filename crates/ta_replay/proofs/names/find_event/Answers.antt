use Rattle.ta_replay.proofs.Common.{sym, ap, ◌∙◌, arith, below_more, false≢true, event_name}
use Rattle.ta_replay.proofs.NumberedNames.{name_of_item, other_item, no_name_of_item}
use Rattle.ta_replay.proofs.names.find_event.Goals as goal

pub returns-then-is_called : goal.returns-then-is_called
returns-then-is_called c = name_of_item event_name c.args.events.now c.loop-i.i c.index-events-i.result c.args.name.now (omega arith)
    (ap event_name (sym c.index-events-i.is) ∙ c.is_called.ensures.0 c.if-is_called.true)

pub loop-i-preserved : goal.loop-i-preserved
loop-i-preserved c =
    below_more _ _ c.loop-i.invariant
    (other_item event_name c.args.events.now c.loop-i.i c.index-events-i.result c.args.name.now (omega arith)
    (λ e. false≢true (sym c.if-is_called.false ∙ c.is_called.ensures.1 (ap event_name c.index-events-i.is ∙ e))))

pub returns : goal.returns
returns c = no_name_of_item event_name c.args.events.now c.loop-i.i c.args.name.now (omega arith) c.loop-i.invariant
