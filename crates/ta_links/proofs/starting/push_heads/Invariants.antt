use Rattle.ta_links.proofs.Common.{◌≡◌, ◌+◌, ◌++◌, drop, slack_heads}
use Rattle.ta_links.proofs.starting.push_heads.Given as goal

abbrev pub invariant-loop-row : goal.invariant-loop-row
invariant-loop-row l = record {
  slack : l.slack ≡ l.system.unknowns + l.first + l.row-index;
  all : l.heads.items ++ slack_heads l.slack (drop l.row-index l.list) ≡ l.fn.heads.items ++ slack_heads (l.system.unknowns + l.first) l.list;
}
