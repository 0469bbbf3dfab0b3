use Rattle.ta_program.specs.Values.{limits_of}
use Rattle.ta_program.proofs.Common.{[], refl, ScopedFile, at_ends, grew_then, file_kind, quietly_meaning}
use Rattle.ta_program.specs.RestSeen.{rest_check_seen}
use Rattle.ta_program.proofs.RestMeanings.{ends_monotone, quietly_monotone}
use Rattle.ta_program.proofs.rest_check.judge_files.Goals as goal

pub returns-in-Ok-clause-says : goal.returns-in-Ok-clause-says
returns-in-Ok-clause-says g c =
    let asked = rest_check_seen c.args.asked.now in
    grew_then (file_kind (limits_of asked.wide)) asked.file [] (at_ends asked.file [] (quietly_meaning asked))
    (ends_monotone (limits_of asked.wide) asked.file [] (quietly_meaning asked) (quietly_monotone asked)) (λ (s : ScopedFile). s.file)
    _ c.in-Ok.scoped c.judge_scoped.result _ _ _ (λ v. refl)
    c.in-Ok.ensures.stage (rw c.in-Ok.ensures.kept at c.judge_scoped.ensures.says)
