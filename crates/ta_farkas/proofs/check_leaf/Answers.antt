use Rattle.ta_farkas.proofs.Common.{◌≡◌, ◌<ℤ◌, ◌*◌, min, arith, rules, pos, subst, refl, ints, to_z-of_z, SFits, w128, FineBefore, IsFirstFaultOfLeaf}
use Rattle.ta_farkas.proofs.Common.{RowNumber, NotNegative}
use Rattle.std.proofs.lemmas.Result.{err_from_is_err_and}
use Rattle.ta_farkas.proofs.Judging.{leaf_of, no_fault}
use Rattle.ta_farkas.proofs.check_leaf.Goals as goal

pub returns-in-Some-clause-ok : goal.returns-in-Some-clause-ok
returns-in-Some-clause-ok c = (λ e. cc, λ w. absurd (no_fault _ _ (RowNumber c.in-Some.row) c.in-Some.ensures.missing w))

pub returns-in_err-judge_block-clause-ok : goal.returns-in_err-judge_block-clause-ok
returns-in_err-judge_block-clause-ok c =
    let told = err_from_is_err_and c.from_residual.result c.from_residual.ensures.1 in
    rw told.1 (λ e. cc, λ w. absurd (no_fault _ _ c.in_err-judge_block.field-0.0 c.in_err-judge_block.ensures.fault w))

pub returns-then-sum-ge0-clause-ok : goal.returns-then-sum-ge0-clause-ok
returns-then-sum-ge0-clause-ok c =
    let s = c.args.system.now in
    let ts = c.args.multipliers.now in
    let end : min (c.loop-block.block * 64) s.unknowns ≡ s.unknowns = omega arith in
    let fine : FineBefore s ts s.unknowns = subst (FineBefore s ts) end c.loop-block.invariant in
    let fault : IsFirstFaultOfLeaf s ts NotNegative = search rules in
    (λ e. cc, λ w. absurd (no_fault _ _ NotNegative fault w))

pub returns-else-sum-ge0-clause-ok : goal.returns-else-sum-ge0-clause-ok
returns-else-sum-ge0-clause-ok c =
    let s = c.args.system.now in
    let ts = c.args.multipliers.now in
    let end : min (c.loop-block.block * 64) s.unknowns ≡ s.unknowns = omega arith in
    let fine : FineBefore s ts s.unknowns = subst (FineBefore s ts) end c.loop-block.invariant in
    let last = c.in-Some-sum_of_constants.ensures in
    let f : SFits w128 c.in-Some-sum_of_constants.sum = search rules in
    let test = simp to_z-of_z at c.if-sum-ge0.false in
    let below : c.in-Some-sum_of_constants.sum <ℤ pos 0 = omega (arith, ints, test) in
    (λ e. leaf_of s ts c.requires fine last.0 (rw (last.1) at below), λ w. refl)
