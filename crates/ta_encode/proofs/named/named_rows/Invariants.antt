use Rattle.ta_encode.proofs.Common.{List, ◌++◌, map, LinearRow, bound_row, AreRowsOf}
use Rattle.ta_encode.proofs.Naming.{NamedSoFar}
use Rattle.ta_encode.proofs.named.named_rows.Given as goal

abbrev pub invariant-loop-number : goal.invariant-loop-number
invariant-loop-number l = (ls : List LinearRow) → AreRowsOf ls l.system.rows
    → NamedSoFar (ls ++ map bound_row l.bounds) l.system.unknowns l.multipliers l.number-index l.rows.items
