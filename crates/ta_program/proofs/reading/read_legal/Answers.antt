use Rattle.ta_program.specs.Values.{limits_of}
use Rattle.ta_program.proofs.Common.{ScopedFile, file_kind}
use Rattle.ta_program.proofs.StageOf.{stage_of}
use Rattle.ta_program.proofs.reading.read_legal.Goals as goal

pub returns-in-Ok-clause-stage : goal.returns-in-Ok-clause-stage
returns-in-Ok-clause-stage g c =
    stage_of (file_kind (limits_of c.args.is_wide)) (λ (s : ScopedFile). s.file) _ _ _ _ c.in-Ok.bytes (rw c.file_limit.ensures at c.in-Ok.ensures.reads)
    c.legal_of.result
    (rw c.as_slice.ensures at c.legal_of.ensures.meant)
