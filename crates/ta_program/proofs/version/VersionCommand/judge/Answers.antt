use Rattle.ta_shelf.proofs.Read.{grew_none}
use Rattle.ta_program.proofs.version.VersionCommand.judge.Goals as goal

pub returns-clause-says : goal.returns-clause-says
returns-clause-says g c = grew_none _ _ c.answer_version.result _ (c.answer_version.ensures.says (g.S.Shelf.files c.args.shelf.now))
