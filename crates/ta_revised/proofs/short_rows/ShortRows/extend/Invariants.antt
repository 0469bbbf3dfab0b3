use Rattle.ta_revised.proofs.Common.{◌≡◌, length, take, AreShort}
use Rattle.ta_revised.proofs.short_rows.ShortRows.extend.Given as goal

abbrev pub invariant-loop-at : goal.invariant-loop-at
invariant-loop-at l = AreShort l.self (take l.at l.rows) × (length l.self.rows.items ≡ l.at)
