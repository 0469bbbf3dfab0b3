use Rattle.ta_report.proofs.UnknownNames.{unknowns_named}
use Rattle.ta_report.proofs.show_laws.unknowns_are_named.Goals as goal

pub returns : goal.returns
returns c = unknowns_named
