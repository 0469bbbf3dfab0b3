use Rattle.ta_implied.proofs.Common.{take, AreCopied}
use Rattle.ta_implied.proofs.system.push_rows.Given as goal

-- copies of the rows so far stand behind those that were there
abbrev pub invariant-loop-row : goal.invariant-loop-row
invariant-loop-row l = AreCopied (take l.row-index l.some) l.fn.rows.items l.rows.items
