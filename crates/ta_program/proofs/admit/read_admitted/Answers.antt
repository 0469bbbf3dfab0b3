use Rattle.ta_program.proofs.Common.{rules, refl, Run, Memory, values_kind, word_seen, grew_means, grew_meant, grew_fault, grew_unread}
use Rattle.ta_program.proofs.admit.read_admitted.Goals as goal

pub returns-in-Ok-admit_bytes-clause-stage : goal.returns-in-Ok-admit_bytes-clause-stage
returns-in-Ok-admit_bytes-clause-stage g c =
    grew_means (values_kind c.args.scoped.now.file (word_seen c.args.word.now)) (λ (run : Run). run) _ _ _ _ c.in-Ok.bytes c.in-Ok.ensures.reads
    c.in-Ok-admit_bytes.run' (rw c.as_slice.ensures at c.in-Ok-admit_bytes.ensures.run)

pub returns-in-Err-Memory-clause-stage : goal.returns-in-Err-Memory-clause-stage
returns-in-Err-Memory-clause-stage g c =
    grew_meant (values_kind c.args.scoped.now.file (word_seen c.args.word.now)) (λ (run : Run). run) _ _ _ _ c.in-Ok.bytes c.in-Ok.ensures.reads Memory tt

pub returns-in-Ok-clause-stage : goal.returns-in-Ok-clause-stage
returns-in-Ok-clause-stage g c =
    grew_fault (values_kind c.args.scoped.now.file (word_seen c.args.word.now)) (λ (run : Run). run) _ _ _ _ c.in-Ok.bytes c.in-Ok.ensures.reads
    _ c.admit_fault_phrase.result c.in-Err-admit_bytes.fault refl
    (rw c.as_slice.ensures at (c.in-Err-admit_bytes.ensures.fault (search rules))) c.admit_fault_phrase.ensures _ refl

pub returns-clause-stage : goal.returns-clause-stage
returns-clause-stage g c =
    grew_unread (values_kind c.args.scoped.now.file (word_seen c.args.word.now)) (λ (run : Run). run) _ _ _ _ (λ bytes fault broken. broken)
    c.in-Err.refusal c.in-Err.ensures.reads
