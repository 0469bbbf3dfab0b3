use Rattle.ta_words.proofs.Common.{ap, ◌∙◌, ◌||◌, has_bit}
use Rattle.ta_words.proofs.Past.{event_seen, rise_seen, fall_seen}
use Rattle.ta_words.proofs.seen.Seen.with.Goals as goal

pub returns-in-Event : goal.returns-in-Event
returns-in-Event c = λ start past is. rw c.in-Event.is (event_seen c.args.self c.with.result c.in-Event.event start past c.with.ensures is)

pub returns-in-Rise : goal.returns-in-Rise
returns-in-Rise c = λ start past is. rw c.in-Rise.is (rise_seen c.args.self c.with-in-Rise.result c.in-Rise.rise start past c.with-in-Rise.ensures is)

pub returns-in-Fall : goal.returns-in-Fall
returns-in-Fall c = λ start past is. rw c.in-Fall.is
    (fall_seen c.args.self c.union.result c.in-Fall.fall start past
    (λ j. c.union.ensures j ∙ ap (λ m. has_bit m j || has_bit c.args.self.fallen j) c.from.ensures) is)
