use Rattle.ta_replay.proofs.Common.{◌≡◌, ◌-◌, ◌^◌, take, min, factors_sum}
use Rattle.ta_replay.proofs.replaying.steps_of.Given as goal

-- the factors so far
abbrev pub invariant-loop-line : goal.invariant-loop-line
invariant-loop-line l = l.steps ≡ min (factors_sum (take l.line-index l.lines)) (2 ^ 64 - 1)
