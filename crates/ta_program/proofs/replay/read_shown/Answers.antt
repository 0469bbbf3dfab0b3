use Rattle.ta_program.proofs.Common.{rules, refl, Memory, grew_means, grew_meant, grew_fault, grew_unread, run_kind}
use Rattle.ta_program.specs.declared.replay.ShownRun.{ShownRun}
use Rattle.ta_program.proofs.replay.read_shown.Goals as goal

pub returns-in-Ok-follow-clause-stage : goal.returns-in-Ok-follow-clause-stage
returns-in-Ok-follow-clause-stage g c =
    grew_means (run_kind c.args.file.now) (λ (s : ShownRun). s.run) _ _ _ _ c.in-Ok.bytes c.in-Ok.ensures.reads
    c.in-Ok-follow.shown (rw c.as_slice.ensures at c.in-Ok-follow.ensures.shows)

pub returns-in-Err-Memory-clause-stage : goal.returns-in-Err-Memory-clause-stage
returns-in-Err-Memory-clause-stage g c =
    grew_meant (run_kind c.args.file.now) (λ (s : ShownRun). s.run) _ _ _ _ c.in-Ok.bytes c.in-Ok.ensures.reads Memory tt

pub returns-in-Ok-clause-stage : goal.returns-in-Ok-clause-stage
returns-in-Ok-clause-stage g c =
    grew_fault (run_kind c.args.file.now) (λ (s : ShownRun). s.run) _ _ _ _ c.in-Ok.bytes c.in-Ok.ensures.reads
    _ c.run_fault_phrase.result c.in-Err-follow.fault refl
    (rw c.as_slice.ensures at (c.in-Err-follow.ensures.fault (search rules))) c.run_fault_phrase.ensures _ refl

pub returns-clause-stage : goal.returns-clause-stage
returns-clause-stage g c =
    grew_unread (run_kind c.args.file.now) (λ (s : ShownRun). s.run) _ _ _ _ (λ bytes fault broken. broken) c.in-Err.refusal c.in-Err.ensures.reads
