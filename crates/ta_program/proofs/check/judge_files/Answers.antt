use Rattle.ta_program.specs.Values.{limits_of}
use Rattle.ta_program.proofs.Common.{[], refl, ScopedFile, grew_then, proved_meaning, file_kind}
use Rattle.ta_program.specs.CheckSeen.{check_seen}
use Rattle.ta_program.proofs.Meanings.{proved_monotone}
use Rattle.ta_program.proofs.check.judge_files.Goals as goal

pub returns-in-Ok-clause-says : goal.returns-in-Ok-clause-says
returns-in-Ok-clause-says g c =
    let asked = check_seen c.args.asked.now in
    grew_then (file_kind (limits_of asked.wide)) asked.file [] (proved_meaning asked) (proved_monotone asked) (λ (s : ScopedFile). s.file) _
    c.in-Ok.scoped
    c.judge_certificate-answer.result _ _ _ (λ v. refl) c.in-Ok.ensures.stage (rw c.in-Ok.ensures.kept at c.judge_certificate-answer.ensures.says)
