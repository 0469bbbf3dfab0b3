use Rattle.ta_linear.proofs.Common.{rules, arith, FitsSigned, ints, to_z-of_z, w128}
use Rattle.ta_linear.proofs.LeastTerm.{least-left, least-right, least-both, leaves-both, StartsAbove-nil}
use Rattle.ta_linear.proofs.arithmetic.least_term.Goals as goal

pub returns-in-Some-split_first-clause-some : goal.returns-in-Some-split_first-clause-some
returns-in-Some-split_first-clause-some c =
    least-right _ _ _ _ c.in-Some-split_first.ensures.cases.0 (StartsAbove-nil _ _ c.in_default.ensures.cases)

pub returns-in-None-split_first-clause-some : goal.returns-in-None-split_first-clause-some
returns-in-None-split_first-clause-some c =
    least-left _ _ _ _ c.in-Some.ensures.cases.0 (StartsAbove-nil _ _ c.in-None-split_first.ensures.cases)

pub returns-in-None-plus-clause-overflow : goal.returns-in-None-plus-clause-overflow
returns-in-None-plus-clause-overflow c =
    let first : FitsSigned w128 c.in-Some.first.now.1 = search rules in
    let second : FitsSigned w128 c.in-Some-split_first-2.second.now.1 = search rules in
    leaves-both _ _ _ _ _ _ c.in-Some.ensures.cases.0 c.in-Some-split_first-2.ensures.cases.0 (omega arith) (simp to_z-of_z at c.in-None-plus.ensures)

pub returns-in-Some-plus-clause-some : goal.returns-in-Some-plus-clause-some
returns-in-Some-plus-clause-some c =
    let first : FitsSigned w128 c.in-Some.first.now.1 = search rules in
    let second : FitsSigned w128 c.in-Some-split_first-2.second.now.1 = search rules in
    let sum : FitsSigned w128 c.in-Some-plus.sum = search rules in
    let told = simp to_z-of_z at c.in-Some-plus.ensures in
    least-both _ _ _ _ _ _ c.in-Some.ensures.cases.0 c.in-Some-split_first-2.ensures.cases.0 (omega arith) _ (omega (arith, ints)) told.0
