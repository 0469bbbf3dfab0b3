use Rattle.ta_check.proofs.Common.{◌≡◌, ◌+◌, ◌<◌, ◌^◌, ◌++◌, ◌∷◌, [], take, get_or, pos, to_z, of_z, arith, sym, ap, ◌∙◌, w128, renumbered}
use Rattle.std.proofs.Math.Facts.{Fits-of_lt}
use Rattle.std.proofs.lemmas.List.{take_all}
use Rattle.ta_check.proofs.Leaves.{pairs_few, renumbered_more, pair_clean}
use Rattle.ta_check.proofs.leaf.renumbered.Goals as goal

pub overflow_cast-place : goal.overflow_cast-place
overflow_cast-place c =
    let test = c.loop-place-test.true in
    let few = pairs_few 0 c.args.multipliers.now c.requires (omega arith) in
    let below : c.loop-place.place < 2 ^ 32 = omega arith in
    Fits-of_lt below

pub loop-place-preserved : goal.loop-place-preserved
loop-place-preserved c =
    let ts = c.args.multipliers.now in
    let i = c.loop-place.place in
    let z = (get_or ts i (0, pos 0)).1 in
    let zero : i ≡ 0 + i = omega arith in
    c.in_ok-push.ensures.items
    ∙ ap (λ us. us ++ (i, to_z w128 (of_z w128 z)) ∷ []) c.loop-place.invariant
    ∙ ap (λ y. renumbered 0 (take i ts) ++ (i, y) ∷ []) (pair_clean 0 ts i c.requires c.loop-place-test.true)
    ∙ ap (λ n. renumbered 0 (take i ts) ++ (n, z) ∷ []) zero
    ∙ sym (renumbered_more 0 i ts c.loop-place-test.true)

pub returns : goal.returns
returns c = c.loop-place.invariant ∙ ap (renumbered 0) (take_all _ _ c.loop-place-test.false)
