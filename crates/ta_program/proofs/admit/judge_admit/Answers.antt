use Rattle.ta_base.specs.LimitRows.{narrow}
use Rattle.ta_program.proofs.Common.{[], refl, ScopedFile, grew_then, run_meaning, file_kind, asked_seen}
use Rattle.ta_program.proofs.WordMeanings.{run_monotone}
use Rattle.ta_program.proofs.admit.judge_admit.Goals as goal

pub returns-in-Ok-clause-says : goal.returns-in-Ok-clause-says
returns-in-Ok-clause-says g c =
    let asked = asked_seen c.args.asked.now in
    let values = c.args.values.now in
    grew_then (file_kind narrow) asked.file [] (run_meaning asked.file asked.word values) (run_monotone asked.file asked.word values)
    (λ (s : ScopedFile). s.file) _
    c.in-Ok.scoped c.judge_word-answer.result _ _ _ (λ v. refl)
    c.in-Ok.ensures.stage (rw c.in-Ok.ensures.kept at c.judge_word-answer.ensures.says)
