use Rattle.ta_walk.proofs.Common.{FoundAfter, MasksAgree}
use Rattle.ta_walk.proofs.finding.find_orders.Given as goal

abbrev pub invariant-loop-after : goal.invariant-loop-after
invariant-loop-after g l = record { found : FoundAfter l.scoped.file.automaton l.after l.sought.list.items; kept : MasksAgree 0 l.after l.sought }
