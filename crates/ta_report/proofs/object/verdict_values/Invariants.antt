use Rattle.ta_report.proofs.Common.{◌≡◌, map, take, view}
use Rattle.ta_report.proofs.JsonItems.{verdicts_list}
use Rattle.ta_report.proofs.object.verdict_values.Given as goal

-- the items so far
abbrev pub invariant-loop-number : goal.invariant-loop-number
invariant-loop-number l = map view l.items.items ≡ take l.number (verdicts_list l.rest l.fn.file l.fn.patterns l.verdicts)
