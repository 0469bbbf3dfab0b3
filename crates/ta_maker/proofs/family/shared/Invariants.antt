use Rattle.ta_maker.proofs.Common.{◌≡◌, ◌≤◌, ◌+◌, ◌-◌, ◌++◌, map, codes, plain_name, numbered, range_with_len}
use Rattle.ta_maker.proofs.family.shared.Given as goal

-- the names so far, and those that are left
abbrev pub invariant-loop-index : goal.invariant-loop-index
invariant-loop-index l = record {
  low : 1 ≤ l.index;
  all : map plain_name l.names.items ++ map (numbered (codes "x")) (range_with_len l.index (l.k + 1 - l.index)) ≡ map (numbered (codes "x"))
      (range_with_len 1 l.k);
}
