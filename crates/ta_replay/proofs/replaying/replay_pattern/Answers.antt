use Rattle.ta_replay.proofs.Ends.{ended_shows, ended_stays, lacks_mark}
use Rattle.ta_replay.proofs.replaying.replay_pattern.Goals as goal

pub returns-in-Some-clause-refuses : goal.returns-in-Some-clause-refuses
returns-in-Some-clause-refuses c =
    let end = c.in_ok-marks.ensures.follows in
    lacks_mark c.args.automaton.now c.args.pattern.now c.args.run.now end.0 c.in_ok-marks.marks c.in-Some.event end.1 c.in-Some.ensures.some

pub returns-clause-shows : goal.returns-clause-shows
returns-clause-shows c =
    let end = c.in_ok-marks.ensures.follows in
    ended_shows c.args.automaton.now c.args.pattern.now c.args.run.now end.0 c.in_ok-marks.marks end.1 c.in_default.ensures.none

pub returns-clause-stays : goal.returns-clause-stays
returns-clause-stays c =
    let end = c.in_ok-marks.ensures.follows in
    ended_stays c.args.automaton.now c.args.pattern.now c.args.run.now end.0 c.in_ok-marks.marks end.1
