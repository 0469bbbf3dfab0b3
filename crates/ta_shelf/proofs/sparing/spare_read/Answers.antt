use Rattle.ta_shelf.specs.Puts.{output_names}
use Rattle.ta_shelf.proofs.Parted.{protects_both, protects_first}
use Rattle.ta_shelf.proofs.sparing.spare_read.Goals as goal

pub returns-in-Ok-clause-spares : goal.returns-in-Ok-clause-spares
returns-in-Ok-clause-spares g c =
    protects_both (g.S.Shelf.files c.args.shelf.now) _ (output_names c.args.outputs.now) c.args.read.now c.part_outputs.result _ _ _ c.in-Ok.ensures.kept
    c.in-Ok.ensures.spares c.part_outputs.ensures.parts

pub returns-in-Err-clause-spares : goal.returns-in-Err-clause-spares
returns-in-Err-clause-spares g c =
    rw c.in-Err.is (protects_first (g.S.Shelf.files c.args.shelf.now) (output_names c.args.outputs.now) c.args.read.now c.in-Err.field-0 _ _
    c.in-Err.ensures.spares)
