use Rattle.ta_program.proofs.Common.{[], refl, Answer, grew_found, grew_none, quietly_meaning, CycleHinders, IsEnds, ends_of}
use Rattle.ta_program.specs.RestSeen.{rest_check_seen}
use Rattle.ta_program.proofs.Resting.{ends_refused, refused_cause}
use Rattle.ta_program.proofs.rest_check.judge_scoped.Goals as goal

pub returns-in-Ok-clause-says : goal.returns-in-Ok-clause-says
returns-in-Ok-clause-says g c =
    let file = c.args.scoped.file in
    let asked = rest_check_seen c.args.asked.now in
    let ends = c.in-Ok.ensures.ends in
    grew_found (IsEnds file) (CycleHinders asked.file file) [] (quietly_meaning asked file)
    (g.S.Shelf.files c.args.shelf.now) (ends_of c.in-Ok.rest) c.judge_quietly-answer.result _ _ ends (λ w. refl)
    (c.judge_quietly-answer.ensures.says file ends.endings)

pub returns-in-Err-clause-says : goal.returns-in-Err-clause-says
returns-in-Err-clause-says g c =
    let file = c.args.scoped.file in
    let asked = rest_check_seen c.args.asked.now in
    grew_none _ _ _ _ (ends_refused asked.file file [] (quietly_meaning asked file) (g.S.Shelf.files c.args.shelf.now)
    c.in-Err.refusal c.in-Err.ensures.refusal)

pub returns-in-Err-clause-cause : goal.returns-in-Err-clause-cause
returns-in-Err-clause-cause g c = refused_cause Answer c.args.asked.now.file.now c.args.scoped.file c.in-Err.refusal _ c.in-Err.ensures.refusal
