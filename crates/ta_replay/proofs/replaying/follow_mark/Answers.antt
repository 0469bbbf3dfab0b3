use Rattle.ta_replay.proofs.Common.{Bool, Ok, subst, point_of}
use Rattle.ta_pattern.specs.Events.{EventAnswer}
use Rattle.ta_replay.proofs.replaying.follow_mark.Goals as goal

pub holds_event-requires-clause-over : goal.holds_event-requires-clause-over
holds_event-requires-clause-over c = λ event at. c.requires.over c.args.event event at

pub returns-clause-takes : goal.returns-clause-takes
returns-clause-takes c = (
  c.is_in_order.ensures.0 c.if-not-is_in_order.false,
  λ event at. subst (λ (b : Bool). EventAnswer (point_of c.args.config.now.values.items) event.condition (Ok b)) c.if-not-holds.false
      (c.in-Ok.ensures.answer event at),
)
