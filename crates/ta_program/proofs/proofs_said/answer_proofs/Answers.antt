use Rattle.ta_program.proofs.ProofsSaid.{proofs_replied}
use Rattle.ta_program.proofs.proofs_said.answer_proofs.Goals as goal

pub returns-in-Ok-clause-says : goal.returns-in-Ok-clause-says
returns-in-Ok-clause-says c files = proofs_replied c.args.rest c.args.file.now c.args.options c.args.numbers.now files c.in-Ok.answer c.in-Ok.ensures
