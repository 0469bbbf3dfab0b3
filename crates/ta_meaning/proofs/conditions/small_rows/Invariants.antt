use Rattle.ta_meaning.proofs.Common.{◌≡◌, drop, any_large_row}
use Rattle.ta_meaning.proofs.conditions.small_rows.Given as goal

abbrev pub invariant-rows : goal.invariant-rows
invariant-rows l = any_large_row l.row-items ≡ any_large_row (drop l.row-index l.row-items)
