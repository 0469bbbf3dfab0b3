use Rattle.ta_program.specs.Values.{limits_of}
use Rattle.ta_program.proofs.Common.{[], refl, ScopedFile, grew_none, grew_then, replies_monotone, file_kind, SaysText, printing}
use Rattle.ta_program.specs.Taken.{file_seen}
use Rattle.ta_program.proofs.one_file.judge_one_file.Goals as goal

pub returns-in-Ok-clause-says : goal.returns-in-Ok-clause-says
returns-in-Ok-clause-says g c =
    let asked = file_seen c.args.asked in
    let text = g.C.OfOneFile.text (limits_of asked.wide) in
    grew_then (file_kind (limits_of asked.wide)) asked.file [] (λ file. printing (text file)) (λ file. replies_monotone [] (SaysText (text file)))
    (λ (s : ScopedFile). s.file) _
    c.in-Ok.scoped
    c.answer_one_file-answer.result _ _ _ (λ v. refl)
    c.in-Ok.ensures.stage (grew_none _ _ c.answer_one_file-answer.result _
    (rw c.limits_of-limits.ensures at c.answer_one_file-answer.ensures.says (g.S.Shelf.files c.args.shelf.now)))
