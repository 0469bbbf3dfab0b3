use Rattle.ta_replay.proofs.Common.{◌-◌, ◌^◌, ◌∙◌, ap, sym, take, min, pos, get_or, slice_get-get_or, capped, Step, factor_of, factors_sum}
use Rattle.ta_replay.proofs.Lines.{factors_sum-next}
use Rattle.ta_replay.proofs.replaying.steps_of.Goals as goal

pub loop-line-preserved : goal.loop-line-preserved
loop-line-preserved c =
    let lines = c.args.lines.now in
    let i = c.loop-line.line-index in
    let line = get_or lines i (Step 0 (pos 0)) in
    let next = factors_sum-next lines i line (slice_get-get_or lines i (Step 0 (pos 0)) c.loop-line-test.true) in
    let sum = capped (2 ^ 64 - 1) (factors_sum (take i lines)) (factor_of line) c.loop-line.steps c.steps_on.result c.saturating_add-steps.result
    c.loop-line.invariant c.steps_on.ensures c.saturating_add-steps.ensures in
    sum ∙ ap (λ n. min n (2 ^ 64 - 1)) (sym next)
