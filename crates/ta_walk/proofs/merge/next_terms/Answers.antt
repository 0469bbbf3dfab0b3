use Rattle.ta_walk.proofs.Common.{rules, FitsSigned, w128, to_z-of_z}
use Rattle.ta_walk.proofs.MergedTerms.{left_alone, right_alone}
use Rattle.ta_walk.proofs.merge.next_terms.Goals as goal

pub returns-in-Some-split_first-clause-some : goal.returns-in-Some-split_first-clause-some
returns-in-Some-split_first-clause-some c =
    let fits : FitsSigned w128 c.in-Some-split_first.second.now.1 = search rules in
    simp to_z-of_z (right_alone _ _ _ _ c.in-Some-split_first.ensures.cases.0 c.in_default.ensures.cases)

pub returns-in-None-split_first-clause-some : goal.returns-in-None-split_first-clause-some
returns-in-None-split_first-clause-some c =
    let fits : FitsSigned w128 c.in-Some.first.now.1 = search rules in
    simp to_z-of_z (left_alone _ _ _ _ c.in-Some.ensures.cases.0 c.in-None-split_first.ensures.cases)
