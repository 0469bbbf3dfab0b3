use Rattle.ta_report.proofs.Common.{◌≡◌, map, take, view}
use Rattle.ta_report.proofs.CheckSayings.{proofs_list}
use Rattle.ta_report.proofs.check_object.proof_values.Given as goal

-- the items so far
abbrev pub invariant-loop-number : goal.invariant-loop-number
invariant-loop-number l = map view l.items.items ≡ take l.number (proofs_list l.rest l.numbers 0 l.file.patterns)
