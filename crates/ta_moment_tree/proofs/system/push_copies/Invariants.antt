use Rattle.ta_moment_tree.proofs.Common.{◌≡◌, ◌≤◌, length, take}
use Rattle.ta_moment_tree.proofs.system.push_copies.Given as goal

abbrev pub invariant-loop-number : goal.invariant-loop-number
invariant-loop-number l = record {
  within : l.number ≤ length l.some;
  rows : l.rows.items ≡ take l.number l.some;
}
