use Rattle.ta_revised.proofs.Common.{pos, length}
use Rattle.ta_revised.proofs.SlackFacts.{term_inside}
use Rattle.ta_revised.proofs.slack.most_stored.Goals as goal

pub bounds-rows-unknown : goal.bounds-rows-unknown
bounds-rows-unknown c = term_inside 0 (length c.args.rows.now) c.args.terms.now c.loop-unknown.unknown-index (0, pos 0) c.requires c.loop-unknown-test.true
