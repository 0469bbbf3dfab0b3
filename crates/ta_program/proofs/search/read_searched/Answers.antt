use Rattle.ta_program.specs.Values.{limits_of}
use Rattle.ta_program.proofs.Common.{List, ℕ, Err, MeantBy, Template, template_kind, grew_compared, grew_holds, grew_unread, grew_unspared, subst}
use Rattle.ta_shelf.specs.Puts.{output_names}
use Rattle.ta_program.proofs.StageOf.{unspared_of}
use Rattle.ta_program.proofs.search.read_searched.Goals as goal

pub returns-in-Ok-spare_read-clause-stage : goal.returns-in-Ok-spare_read-clause-stage
returns-in-Ok-spare_read-clause-stage g c =
    grew_compared (template_kind (limits_of c.args.is_wide)) (λ (t : Template). t) _ _ (output_names c.args.outputs.now) c.in-Ok.bytes _ _ _ _
    c.in-Ok.ensures.kept
    (rw c.file_limit.ensures at c.in-Ok.ensures.reads)
    c.in-Ok-template_of.template (rw c.as_slice.ensures at (c.in-Ok-template_of.ensures.meant (limits_of c.args.is_wide)))
    (rw c.as_slice-in-Ok-template_of.ensures at c.in-Ok-spare_read.ensures.spares)

pub returns-in-Ok-template_of-clause-stage : goal.returns-in-Ok-template_of-clause-stage
returns-in-Ok-template_of-clause-stage g c =
    grew_holds (template_kind (limits_of c.args.is_wide)) (λ (t : Template). t) _ _ (output_names c.args.outputs.now) c.in-Ok.bytes _ _ _ _ c.in-Ok.ensures.kept
    (rw c.file_limit.ensures at c.in-Ok.ensures.reads)
    c.in-Err-spare_read.refusal c.in-Ok-template_of.template (rw c.as_slice.ensures at (c.in-Ok-template_of.ensures.meant (limits_of c.args.is_wide)))
    (rw c.as_slice-in-Ok-template_of.ensures at c.in-Err-spare_read.ensures.spares)

pub returns-in-Ok-clause-stage : goal.returns-in-Ok-clause-stage
returns-in-Ok-clause-stage g c =
    let kind = template_kind (limits_of c.args.is_wide) in
    let meant = subst (λ (bytes : List ℕ). MeantBy {T = Template} kind (λ (t : Template). t) c.args.name.now bytes (Err c.in-Err-template_of.refusal))
    c.as_slice.ensures (c.in-Err-template_of.ensures.meant (limits_of c.args.is_wide)) in
    unspared_of kind (λ (t : Template). t) _ _ _ _ c.in-Ok.bytes (rw c.file_limit.ensures at c.in-Ok.ensures.reads) (output_names c.args.outputs.now)
    c.in-Err-template_of.refusal meant

pub returns-clause-stage : goal.returns-clause-stage
returns-clause-stage g c =
    grew_unspared (template_kind (limits_of c.args.is_wide)) (λ (t : Template). t) _ _ (output_names c.args.outputs.now) c.in-Err.refusal _ _
    (grew_unread (template_kind (limits_of c.args.is_wide)) (λ (t : Template). t) _ _ _ _ (λ bytes fault broken. broken) c.in-Err.refusal
    (rw c.file_limit.ensures at c.in-Err.ensures.reads))
