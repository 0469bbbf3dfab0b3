use Rattle.ta_program.proofs.Common.{SaysText}
use Rattle.ta_program.proofs.Replied.{replied}
use Rattle.ta_program.proofs.one_file.answer_one_file.Goals as goal

pub returns-in-Ok-clause-says : goal.returns-in-Ok-clause-says
returns-in-Ok-clause-says g c files =
    replied (SaysText (g.C.OfOneFile.text c.args.limits.now c.args.scoped.now.file)) files c.writing.result c.in-Ok.text c.writing.ensures
    (record { written = c.in-Ok.text; is = c.in-Ok.ensures; writes = c.writing.ensures })
