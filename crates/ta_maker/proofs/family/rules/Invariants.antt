use Rattle.ta_maker.proofs.Common.{◌≡◌, ◌≤◌, ◌+◌, ◌-◌, ◌++◌, map, plain_rule, range_with_len, rules_of}
use Rattle.ta_maker.proofs.family.rules.Given as goal

-- the rules so far, and those that are left
abbrev pub invariant-loop-index : goal.invariant-loop-index
invariant-loop-index l = record {
  low : 1 ≤ l.index;
  all : map plain_rule l.rules.items ++ rules_of (range_with_len l.index (l.k + 1 - l.index)) ≡ rules_of (range_with_len 1 l.k);
}
