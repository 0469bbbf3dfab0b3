use Rattle.ta_witness.proofs.Common.{pos, ◌≡◌, ◌++◌, ◌<ℤ◌, ◌^◌, map, take, AllByRecursion, step_line}
use Rattle.ta_witness.proofs.lines.push_steps.Given as goal

-- the earlier steps are added
abbrev pub invariant-loop-step : goal.invariant-loop-step
invariant-loop-step l = (l.lines.items ≡ l.initial.lines.items ++ map step_line (take l.step-index l.steps))
    × AllByRecursion (λ step. step.1 <ℤ pos (2 ^ 127)) (take l.step-index l.steps)
