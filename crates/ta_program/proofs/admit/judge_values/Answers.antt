use Rattle.ta_program.proofs.Common.{[], refl, Run, run_text, Writes, replies, grew_none, grew_then, replies_monotone, values_kind, word_seen}
use Rattle.ta_program.proofs.admit.judge_values.Goals as goal

pub returns-in-Ok-clause-says : goal.returns-in-Ok-clause-says
returns-in-Ok-clause-says g c =
    let file = c.args.scoped.now.file in
    let says = c.answer_run.ensures.says (g.S.Shelf.files c.args.shelf.now) in
    grew_then (values_kind file (word_seen c.args.word.now)) c.args.name.now [] (λ run. replies [] (Writes 0 (run_text file run)))
    (λ run. replies_monotone [] (Writes 0 (run_text file run))) (λ (run : Run). run) _ c.in-Ok.run' c.answer_run.result _ _ _ (λ v. refl)
    c.in-Ok.ensures.stage (grew_none _ _ c.answer_run.result _ says)
