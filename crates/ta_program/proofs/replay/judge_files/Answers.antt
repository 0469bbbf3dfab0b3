use Rattle.ta_program.specs.Values.{limits_of}
use Rattle.ta_program.proofs.Common.{[], refl, ScopedFile, grew_then, file_kind, shown_meaning}
use Rattle.ta_program.specs.CheckSeen.{replay_seen}
use Rattle.ta_program.proofs.Meanings.{shown_monotone}
use Rattle.ta_program.proofs.replay.judge_files.Goals as goal

pub returns-in-Ok-clause-says : goal.returns-in-Ok-clause-says
returns-in-Ok-clause-says g c =
    let asked = replay_seen c.args.asked.now in
    grew_then (file_kind (limits_of asked.wide)) asked.file [] (λ file. shown_meaning file asked.json asked.other)
    (λ file. shown_monotone file asked.json asked.other) (λ (s : ScopedFile). s.file) _
    c.in-Ok.scoped
    c.judge_run-answer.result _ _ _ (λ v. refl) c.in-Ok.ensures.stage (rw (c.in-Ok.ensures.kept, c.file.ensures) at c.judge_run-answer.ensures.says)
