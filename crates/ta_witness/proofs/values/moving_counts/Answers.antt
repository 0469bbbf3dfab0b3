use Rattle.ta_witness.proofs.Common.{rules, pos, cond, slice_get, FitsSigned, w128, to_z-of_z, count_at}
use Rattle.ta_moments.proofs.Common.{◌∙◌}
use Rattle.ta_moments.specs.Facts.{is_moving}
use Rattle.ta_witness.proofs.Lining.{numbers_more}
use Rattle.ta_witness.proofs.values.moving_counts.Goals as goal

pub loop-rule-preserved : goal.loop-rule-preserved
loop-rule-preserved c =
    let fits : FitsSigned w128 c.count_of.result = search rules in
    let items = simp to_z-of_z at c.in_ok-push.ensures.items in
    items ∙ numbers_more (λ r. cond (is_moving c.args.pattern.now (slice_get c.args.automaton.now.rules r)) (count_at c.args.numbers.now r) (pos 0))
    c.loop-rule.rule c.loop-rule.counts.items c.count_of.result c.loop-rule.invariant c.count_of.ensures
