use Rattle.ta_report.proofs.ReadBack.{json_read}
use Rattle.ta_report.proofs.JsonSayings.{json_runs, json_safe, json_unsafe}
use Rattle.ta_report.proofs.laws.json_tells.Goals as goal

pub returns-clause-read : goal.returns-clause-read
returns-clause-read c = json_read

pub returns-clause-safe : goal.returns-clause-safe
returns-clause-safe c = json_safe

pub returns-clause-unsafe_ : goal.returns-clause-unsafe_
returns-clause-unsafe_ c = json_unsafe

pub returns-clause-runs : goal.returns-clause-runs
returns-clause-runs c = json_runs
