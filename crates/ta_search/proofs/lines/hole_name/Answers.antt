use Rattle.ta_search.proofs.HoleLines.{name_utf8}
use Rattle.ta_search.proofs.lines.hole_name.Goals as goal

pub returns-in_default : goal.returns-in_default
returns-in_default c = λ is. c.in_default.ensures.cases.0 (name_utf8 c.args.bytes.now is.name)
