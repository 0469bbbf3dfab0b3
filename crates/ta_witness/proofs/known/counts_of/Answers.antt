use Rattle.ta_witness.proofs.Common.{rules, ℕ, ℤ, ◌+◌, List, map, FitsSigned, sym, subst, w128, to_z-of_z, range_with_len, Count, unknown_value, AreValues}
use Rattle.ta_witness.proofs.Making.{values_more}
use Rattle.ta_witness.proofs.known.counts_of.Goals as goal

pub loop-rule-preserved : goal.loop-rule-preserved
loop-rule-preserved c =
    let fits : FitsSigned w128 c.value_of.result = search rules in
    let items = simp to_z-of_z at c.in_ok-push.ensures.items in
    let value : ℕ → ℤ = λ r. unknown_value c.args.meanings.now c.args.values.now (Count c.args.element r) in
    let more = values_more value c.loop-rule.rule c.loop-rule.numbers.items c.value_of.result c.loop-rule.invariant c.value_of.ensures.is
    c.value_of.ensures.natural in
    subst (λ (xs : List ℤ). AreValues (map value (range_with_len 0 (c.loop-rule.rule + 1))) xs) (sym items) more
