use Rattle.ta_base.specs.LimitRows.{narrow}
use Rattle.ta_program.proofs.Common.{[], refl, ScopedFile, grew_none, grew_then, system_meaning, file_kind, asked_seen}
use Rattle.ta_program.proofs.WordMeanings.{system_monotone}
use Rattle.ta_program.proofs.export.judge_export.Goals as goal

pub returns-in-Ok-clause-says : goal.returns-in-Ok-clause-says
returns-in-Ok-clause-says g c =
    let asked = asked_seen c.args.asked.now in
    grew_then (file_kind narrow) asked.file [] (system_meaning asked.file asked.word) (system_monotone asked.file asked.word) (λ (s : ScopedFile). s.file) _
    c.in-Ok.scoped c.answer_export-answer.result _ _ _ (λ v. refl)
    c.in-Ok.ensures.stage (grew_none _ _ c.answer_export-answer.result _ (c.answer_export-answer.ensures.says (g.S.Shelf.files c.args.shelf.now)))
