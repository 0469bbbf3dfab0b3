use Rattle.ta_program.proofs.Common.{[], refl, replies, grew_none, grew_then, replies_monotone, run_kind, SaysShown}
use Rattle.ta_program.specs.declared.replay.ShownRun.{ShownRun}
use Rattle.ta_program.proofs.replay.judge_run.Goals as goal

pub returns-in-Ok-clause-says : goal.returns-in-Ok-clause-says
returns-in-Ok-clause-says g c =
    let file = c.args.file.now in
    let says = c.answer_shown.ensures.says (g.S.Shelf.files c.args.shelf.now) in
    grew_then (run_kind file) c.args.name.now [] (λ run. replies [] (SaysShown file c.args.json run))
    (λ run. replies_monotone [] (SaysShown file c.args.json run)) (λ (s : ShownRun). s.run) _ c.in-Ok.shown c.answer_shown.result _ _ _ (λ v. refl)
    c.in-Ok.ensures.stage (grew_none _ _ c.answer_shown.result _ says)
