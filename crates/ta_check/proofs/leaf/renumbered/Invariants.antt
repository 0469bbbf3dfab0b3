use Rattle.ta_check.proofs.Common.{◌≡◌, take, renumbered}
use Rattle.ta_check.proofs.leaf.renumbered.Given as goal

abbrev pub invariant-loop-place : goal.invariant-loop-place
invariant-loop-place l = l.again.items ≡ renumbered 0 (take l.place l.multipliers)
