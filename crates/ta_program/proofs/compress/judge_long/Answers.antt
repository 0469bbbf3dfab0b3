use Rattle.ta_program.proofs.Common.{[], refl, replies, grew_none, grew_then, replies_monotone, SaysShort, long_kind}
use Rattle.ta_program.specs.declared.compress.Shortened.{Shortened}
use Rattle.ta_program.proofs.compress.judge_long.Goals as goal

pub returns-in-Ok-clause-says : goal.returns-in-Ok-clause-says
returns-in-Ok-clause-says g c =
    let file = c.args.scoped.now.file in
    let says = c.answer_short-answer.ensures.says (g.S.Shelf.files c.args.shelf.now) in
    grew_then (long_kind file) c.args.name.now [] (λ run. replies [] (SaysShort file run)) (λ run. replies_monotone [] (SaysShort file run))
    (λ (s : Shortened). s.run) _ c.in-Ok.runs c.answer_short-answer.result _ _ _ (λ v. refl)
    c.in-Ok.ensures.stage (grew_none _ _ c.answer_short-answer.result _ says)
