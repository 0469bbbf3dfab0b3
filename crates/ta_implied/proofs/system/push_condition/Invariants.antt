use Rattle.ta_implied.proofs.Common.{take, AreCopied, resilience_of}
use Rattle.ta_implied.proofs.system.push_condition.Given as goal

-- copies of the rows of the comparisons so far stand behind those that were there
abbrev pub invariant-loop-comparison : goal.invariant-loop-comparison
invariant-loop-comparison l = AreCopied (resilience_of (take l.comparison-index l.condition.comparisons)) l.fn.rows.items l.rows.items
