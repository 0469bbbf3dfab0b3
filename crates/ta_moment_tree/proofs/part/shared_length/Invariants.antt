use Rattle.ta_moment_tree.proofs.Common.{◌≡◌, ◌≤◌, length, take}
use Rattle.ta_moment_tree.proofs.part.shared_length.Given as goal

abbrev pub invariant-loop-number : goal.invariant-loop-number
invariant-loop-number l = record {
  left : l.least ≤ length l.left;
  right : l.least ≤ length l.right;
  same : take l.number l.left ≡ take l.number l.right;
}
