use Rattle.ta_program.specs.Values.{limits_of}
use Rattle.ta_program.proofs.Common.{List, ℕ, Err, MeantBy, subst, ScopedFile, file_kind, grew_compared, grew_holds, grew_unread, grew_unspared}
use Rattle.ta_program.proofs.StageOf.{unspared_of}
use Rattle.ta_shelf.specs.Puts.{output_names}
use Rattle.ta_program.proofs.reading.read_spared.Goals as goal

pub returns-in-Ok-spare_read-clause-stage : goal.returns-in-Ok-spare_read-clause-stage
returns-in-Ok-spare_read-clause-stage g c =
    grew_compared (file_kind (limits_of c.args.is_wide)) (λ (s : ScopedFile). s.file) _ _ (output_names c.args.outputs.now) c.in-Ok.bytes _ _ _ _
    c.in-Ok.ensures.kept
    (rw c.file_limit.ensures at c.in-Ok.ensures.reads)
    c.in-Ok-legal_of.scoped (rw c.as_slice.ensures at c.in-Ok-legal_of.ensures.meant)
    (rw c.as_slice-in-Ok-legal_of.ensures at c.in-Ok-spare_read.ensures.spares)

pub returns-in-Ok-legal_of-clause-stage : goal.returns-in-Ok-legal_of-clause-stage
returns-in-Ok-legal_of-clause-stage g c =
    grew_holds (file_kind (limits_of c.args.is_wide)) (λ (s : ScopedFile). s.file) _ _ (output_names c.args.outputs.now) c.in-Ok.bytes _ _ _ _
    c.in-Ok.ensures.kept
    (rw c.file_limit.ensures at c.in-Ok.ensures.reads)
    c.in-Err-spare_read.refusal c.in-Ok-legal_of.scoped (rw c.as_slice.ensures at c.in-Ok-legal_of.ensures.meant)
    (rw c.as_slice-in-Ok-legal_of.ensures at c.in-Err-spare_read.ensures.spares)

pub returns-in-Ok-clause-stage : goal.returns-in-Ok-clause-stage
returns-in-Ok-clause-stage g c =
    unspared_of (file_kind (limits_of c.args.is_wide)) (λ (s : ScopedFile). s.file) _ _ _ _ c.in-Ok.bytes
    (rw c.file_limit.ensures at c.in-Ok.ensures.reads) (output_names c.args.outputs.now)
    c.in-Err-legal_of.refusal
    (subst (λ (bytes : List ℕ). MeantBy {T = ScopedFile} (file_kind (limits_of c.args.is_wide)) (λ (s : ScopedFile). s.file) c.args.name.now bytes
    (Err c.in-Err-legal_of.refusal)) c.as_slice.ensures c.in-Err-legal_of.ensures.meant)

pub returns-clause-stage : goal.returns-clause-stage
returns-clause-stage g c =
    grew_unspared (file_kind (limits_of c.args.is_wide)) (λ (s : ScopedFile). s.file) _ _ (output_names c.args.outputs.now) c.in-Err.refusal _ _
    (grew_unread (file_kind (limits_of c.args.is_wide)) (λ (s : ScopedFile). s.file) _ _ _ _ (λ bytes fault broken. broken) c.in-Err.refusal
    (rw c.file_limit.ensures at c.in-Err.ensures.reads))
