use Rattle.ta_program.proofs.Common.{Err, Ok, inr, subst, AllClaimsHold, CheckerFinishAnswers, IsExactCheck, subject_of, Subject}
use Rattle.ta_program.proofs.PiecesJudged.{stage_ended, stage_proved}
use Rattle.ta_program.proofs.check.read_certificate.Goals as goal

pub returns-in-Err-finish-clause-stage : goal.returns-in-Err-finish-clause-stage
returns-in-Err-finish-clause-stage g c =
    let judged = c.in-Ok.ensures.judged in
    let whole = judged.such.0 in
    let f = c.in-Err-finish.fault in
    let finished = subst (λ (s : Subject). CheckerFinishAnswers s whole.text (Err f)) judged.such.1 (c.in-Err-finish.ensures.answer whole.text whole.stands) in
    let exact = subst (λ (s : Subject). IsExactCheck s whole.text (Err f)) judged.such.1 (c.in-Err-finish.ensures.exact whole.text whole.stands) in
    record {
      added = judged.added;
      grown = judged.grown;
      such = stage_ended (subject_of c.args.checker) (g.S.Shelf.files c.args.shelf.now) c.args.name.now c.in-Ok.checker judged.added whole f c.refused.result
          finished exact c.refused.ensures;
    }

pub returns-in-Ok-finish-clause-stage : goal.returns-in-Ok-finish-clause-stage
returns-in-Ok-finish-clause-stage g c =
    let judged = c.in-Ok.ensures.judged in
    let whole = judged.such.0 in
    let a = c.in-Ok-finish.accepted in
    let finished = subst (λ (s : Subject). CheckerFinishAnswers s whole.text (Ok a)) judged.such.1 (c.in-Ok-finish.ensures.answer whole.text whole.stands) in
    let safe = subst (λ (s : Subject). AllClaimsHold s a.patterns) judged.such.1 c.in-Ok-finish.ensures.holds in
    record {
      added = judged.added;
      grown = judged.grown;
      such = stage_proved (subject_of c.args.checker) (g.S.Shelf.files c.args.shelf.now) c.args.name.now c.in-Ok.checker judged.added whole a finished safe;
    }

pub returns-in-Err-clause-stage : goal.returns-in-Err-clause-stage
returns-in-Err-clause-stage g c = c.in-Err.ensures.judged

pub finish-requires : goal.finish-requires
finish-requires g c = let whole = c.in-Ok.ensures.judged.such.0 in inr (whole.text, whole.stands)
