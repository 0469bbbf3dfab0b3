use Rattle.ta_shelf.proofs.ShellCommon.{refl}
use Rattle.ta_shelf.proofs.OutputCalls.{changed_one}
use Rattle.ta_shelf.proofs.Refusing.{refused_publish}
use Rattle.ta_shelf.proofs.putting.publish.Goals as goal

pub returns-in-Err-Failed-clause-published : goal.returns-in-Err-Failed-clause-published
returns-in-Err-Failed-clause-published g c =
    changed_one _ _ _ _ c.in-Err-Failed.ensures.log
    (refl, refused_publish c.args.name.now _ _ _ c.in-Err-Failed.field-0 c.requires c.in-Err-Failed.ensures.published c.in-Err-Failed.ensures.others)

pub returns-in-Err-Memory-clause-published : goal.returns-in-Err-Memory-clause-published
returns-in-Err-Memory-clause-published g c =
    changed_one _ _ _ _ c.in-Err-Memory.ensures.log
    (refused_publish c.args.name.now _ _ _ c.in-Err-Memory.field-0 c.requires c.in-Err-Memory.ensures.published c.in-Err-Memory.ensures.others)
