use Rattle.ta_compress.proofs.Common.{◌≡◌, ◌++◌, map, take, step_line}
use Rattle.ta_compress.proofs.draft.push_steps.Given as goal

-- the earlier steps are added
abbrev pub invariant-loop-rule : goal.invariant-loop-rule
invariant-loop-rule l = l.lines.items ≡ l.initial.lines.items ++ map step_line (take l.rule-index l.steps)
