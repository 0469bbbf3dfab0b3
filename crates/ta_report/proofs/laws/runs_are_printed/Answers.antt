use Rattle.ta_report.proofs.Printed.{printed_runs, runs_printed}
use Rattle.ta_report.proofs.laws.runs_are_printed.Goals as goal

pub returns-clause-there : goal.returns-clause-there
returns-clause-there c = runs_printed

pub returns-clause-only : goal.returns-clause-only
returns-clause-only c = printed_runs
