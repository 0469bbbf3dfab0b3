use Rattle.ta_encode.proofs.Beginning.{begins_within}
use Rattle.ta_encode.proofs.cursor_laws.begins_within.Goals as goal

pub returns : goal.returns
returns g c = begins_within g.row.F.Denot
