use Rattle.ta_program.proofs.Common.{rules, refl, Memory, grew_means, grew_meant, grew_fault, grew_unread, long_kind}
use Rattle.ta_program.specs.declared.compress.Shortened.{Shortened}
use Rattle.ta_program.proofs.compress.read_shortened.Goals as goal

pub returns-in-Ok-shorten-clause-stage : goal.returns-in-Ok-shorten-clause-stage
returns-in-Ok-shorten-clause-stage g c =
    grew_means (long_kind c.args.scoped.now.file) (λ (s : Shortened). s.run) _ _ _ _ c.in-Ok.bytes c.in-Ok.ensures.reads
    c.in-Ok-shorten.runs (rw c.as_slice.ensures at c.in-Ok-shorten.ensures.compresses)

pub returns-in-Err-Memory-clause-stage : goal.returns-in-Err-Memory-clause-stage
returns-in-Err-Memory-clause-stage g c =
    grew_meant (long_kind c.args.scoped.now.file) (λ (s : Shortened). s.run) _ _ _ _ c.in-Ok.bytes c.in-Ok.ensures.reads Memory tt

pub returns-in-Ok-clause-stage : goal.returns-in-Ok-clause-stage
returns-in-Ok-clause-stage g c =
    grew_fault (long_kind c.args.scoped.now.file) (λ (s : Shortened). s.run) _ _ _ _ c.in-Ok.bytes c.in-Ok.ensures.reads
    _ c.compress_fault_phrase.result c.in-Err-shorten.fault refl
    (rw c.as_slice.ensures at (c.in-Err-shorten.ensures.fault (search rules))) c.compress_fault_phrase.ensures _ refl

pub returns-clause-stage : goal.returns-clause-stage
returns-clause-stage g c =
    grew_unread (long_kind c.args.scoped.now.file) (λ (s : Shortened). s.run) _ _ _ _ (λ bytes fault broken. broken) c.in-Err.refusal c.in-Err.ensures.reads
