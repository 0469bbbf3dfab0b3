use Rattle.ta_report.proofs.Printed.{printed_rest_safe, printed_rest_unsafe}
use Rattle.ta_report.proofs.laws.rest_lines_tell.Goals as goal

pub returns-clause-safe : goal.returns-clause-safe
returns-clause-safe c = printed_rest_safe

pub returns-clause-unsafe_ : goal.returns-clause-unsafe_
returns-clause-unsafe_ c = printed_rest_unsafe
