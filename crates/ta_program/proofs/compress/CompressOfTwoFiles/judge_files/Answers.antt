use Rattle.ta_program.specs.Values.{limits_of}
use Rattle.ta_program.proofs.Common.{[], refl, ScopedFile, grew_then, short_meaning, file_kind, names_seen}
use Rattle.ta_program.proofs.Meanings.{short_monotone}
use Rattle.ta_program.proofs.compress.CompressOfTwoFiles.judge_files.Goals as goal

pub returns-in-Ok-clause-says : goal.returns-in-Ok-clause-says
returns-in-Ok-clause-says g c =
    let asked = names_seen c.args.names in
    grew_then (file_kind (limits_of asked.wide)) asked.file [] (λ file. short_meaning file asked.other) (λ file. short_monotone file asked.other)
    (λ (s : ScopedFile). s.file) _ c.in-Ok.scoped
    c.judge_long-answer.result _ _ _ (λ v. refl)
    c.in-Ok.ensures.stage (rw c.in-Ok.ensures.kept at c.judge_long-answer.ensures.says)
