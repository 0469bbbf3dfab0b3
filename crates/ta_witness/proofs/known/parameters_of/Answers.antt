use Rattle.ta_witness.proofs.Common.{rules, ℕ, ℤ, ◌+◌, List, map, FitsSigned, sym, subst, w128, to_z-of_z, range_with_len, Parameter, unknown_value, AreValues}
use Rattle.ta_witness.proofs.Making.{values_more}
use Rattle.ta_witness.proofs.known.parameters_of.Goals as goal

pub loop-parameter-preserved : goal.loop-parameter-preserved
loop-parameter-preserved c =
    let fits : FitsSigned w128 c.value_of.result = search rules in
    let items = simp to_z-of_z at c.in_ok-push.ensures.items in
    let value : ℕ → ℤ = λ i. unknown_value c.args.meanings.now c.args.values.now (Parameter i) in
    let more = values_more value c.loop-parameter.parameter c.loop-parameter.numbers.items c.value_of.result c.loop-parameter.invariant c.value_of.ensures.is
    c.value_of.ensures.natural in
    subst (λ (xs : List ℤ). AreValues (map value (range_with_len 0 (c.loop-parameter.parameter + 1))) xs) (sym items) more
