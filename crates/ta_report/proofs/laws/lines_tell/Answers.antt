use Rattle.ta_report.proofs.Printed.{printed_safe, printed_unsafe}
use Rattle.ta_report.proofs.laws.lines_tell.Goals as goal

pub returns-clause-safe : goal.returns-clause-safe
returns-clause-safe c = printed_safe

pub returns-clause-unsafe_ : goal.returns-clause-unsafe_
returns-clause-unsafe_ c = printed_unsafe
