use Rattle.ta_check.proofs.Common.{◌++◌, sym, ◌∙◌, false≢true, subject_of}
use Rattle.ta_check.proofs.Answering.{exact_feed, never_failed, fed, still_sound, stands_somewhere}
use Rattle.ta_check.proofs.checker.Checker.feed.Goals as goal

pub returns-clause-answer : goal.returns-clause-answer
returns-clause-answer c = λ text stands. fed _ text c.args.piece.now c.take_lines-answer.result stands.may c.is_err-self.ensures.value
    (c.take_lines-answer.ensures c.args.self.now.line_bytes text stands.stand)

pub returns-clause-exact : goal.returns-clause-exact
returns-clause-exact c = λ text stands. exact_feed (subject_of c.args.self.now) c.take_lines-answer.new.reader c.take_lines-answer.new.position
    (text ++ c.args.piece.now) c.take_lines-answer.result (c.take_lines-answer.ensures c.args.self.now.line_bytes text stands.stand)

pub returns-clause-refused : goal.returns-clause-refused
returns-clause-refused c =
    let some = stands_somewhere c.args.self.now c.if-self.false c.requires in
    let taken = c.take_lines-answer.ensures c.args.self.now.line_bytes some.0 some.1.stand in (
      λ is. absurd (never_failed (subject_of c.args.self.now) c.take_lines-answer.new.reader c.take_lines-answer.new.position (some.0 ++ c.args.piece.now)
          c.take_lines-answer.result taken is),
      λ failed. absurd (false≢true (sym c.if-self.false ∙ failed)),
    )

pub returns-clause-sound : goal.returns-clause-sound
returns-clause-sound c =
    let some = stands_somewhere c.args.self.now c.if-self.false c.requires in
    still_sound _ (some.0 ++ c.args.piece.now) c.take_lines-answer.result some.1.may c.is_err-self.ensures.value
    (c.take_lines-answer.ensures c.args.self.now.line_bytes some.0 some.1.stand)
