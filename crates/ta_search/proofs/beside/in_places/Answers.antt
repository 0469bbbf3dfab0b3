use Rattle.ta_search.proofs.Common.{subst, sym, AllByRecursion, IsPlaced}
use Rattle.ta_search.proofs.beside.in_places.Goals as goal

pub placed-init : goal.placed-init
placed-init c = λ t terms each.
    (c.in_ok-places.ensures t terms, subst (AllByRecursion (IsPlaced t terms)) (sym c.into_iter-place-iterator.ensures.into_iter_gives.0) each)

pub placed-preserved : goal.placed-preserved
placed-preserved c = λ t terms each.
    let so_far = c.placed.invariant t terms each in
    let left = subst (AllByRecursion (IsPlaced t terms)) c.in-Some.ensures.steps.0 so_far.1 in
    (c.put.ensures t terms so_far.0 left.0, left.1)

pub returns : goal.returns
returns c = λ t terms each. (c.placed.invariant t terms each).0
