use Rattle.ta_witness.proofs.Common.{rules, pos, get_or, FitsSigned, w128, to_z-of_z, count_at, gap}
use Rattle.ta_moments.proofs.Common.{◌∙◌}
use Rattle.ta_witness.proofs.Lining.{numbers_more}
use Rattle.ta_witness.proofs.moment_lines.missing.Goals as goal

pub loop-rule-preserved : goal.loop-rule-preserved
loop-rule-preserved c =
    let one : FitsSigned w128 (get_or c.args.before.now c.loop-rule.rule (pos 0)) = search rules in
    let two : FitsSigned w128 (get_or c.args.after.now c.loop-rule.rule (pos 0)) = search rules in
    let fits : FitsSigned w128 c.gap.result = search rules in
    let is = simp to_z-of_z at c.gap.ensures in
    let items = simp to_z-of_z at c.in_ok-push.ensures.items in
    items ∙ numbers_more (λ r. gap (count_at c.args.before.now r) (count_at c.args.after.now r)) c.loop-rule.rule c.loop-rule.counts.items c.gap.result
    c.loop-rule.invariant is
