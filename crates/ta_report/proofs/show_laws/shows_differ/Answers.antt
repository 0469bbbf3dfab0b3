use Rattle.ta_report.proofs.FileTells.{texts_differ}
use Rattle.ta_report.proofs.show_laws.shows_differ.Goals as goal

pub returns : goal.returns
returns c = texts_differ
