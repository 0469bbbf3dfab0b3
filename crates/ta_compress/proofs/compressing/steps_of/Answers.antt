use Rattle.ta_compress.proofs.Common.{◌≡◌, ◌-◌, ◌^◌, ◌∙◌, ap, sym, take, min, pos, get_or, arith, ints, take_all, slice_get-get_or, w128, to_z, capped, Step}
use Rattle.ta_compress.proofs.Common.{factor_of, factors_sum, factors_sum-next}
use Rattle.ta_base.proofs.Naturals.{capped_again, capped_below, below_cap}
use Rattle.ta_compress.proofs.compressing.steps_of.Goals as goal

pub loop-line-preserved : goal.loop-line-preserved
loop-line-preserved c =
    let lines = c.args.lines.now in
    let i = c.loop-line.line-index in
    let line = get_or lines i (Step 0 (pos 0)) in
    let next = factors_sum-next lines i line (slice_get-get_or lines i (Step 0 (pos 0)) c.loop-line-test.true) in
    let sum = capped (2 ^ 128 - 1) (factors_sum (take i lines)) (factor_of line) c.loop-line.steps c.steps_on.result c.saturating_add-steps.result
    c.loop-line.invariant (c.steps_on.ensures ∙ below_cap (factor_of line) c.steps_on.result (2 ^ 128 - 1) c.steps_on.ensures
    (let b = c.steps_on.type_inv in omega arith)) c.saturating_add-steps.ensures in
    sum ∙ ap (λ n. min n (2 ^ 128 - 1)) (sym next)

pub returns : goal.returns
returns c =
    let lines = c.args.lines.now in
    let all = ap factors_sum (take_all c.loop-line.line-index lines c.loop-line-test.false) in
    let r = capped_again c.min.result c.loop-line.steps (factors_sum (take c.loop-line.line-index lines)) (2 ^ 127 - 1) (2 ^ 128 - 1) (omega arith)
    c.min.ensures c.loop-line.invariant in
    let small = capped_below c.min.result (factors_sum (take c.loop-line.line-index lines)) (2 ^ 127 - 1) r in
    let whole : to_z w128 c.min.result ≡ pos c.min.result = omega (arith, ints) in
    whole ∙ ap pos (r ∙ ap (λ n. min n (2 ^ 127 - 1)) all)
