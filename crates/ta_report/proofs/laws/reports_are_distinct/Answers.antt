use Rattle.ta_report.proofs.Distinct.{reports_distinct}
use Rattle.ta_report.proofs.JsonSayings.{json_distinct}
use Rattle.ta_report.proofs.laws.reports_are_distinct.Goals as goal

pub returns-clause-text : goal.returns-clause-text
returns-clause-text c = reports_distinct

pub returns-clause-json : goal.returns-clause-json
returns-clause-json c = json_distinct
