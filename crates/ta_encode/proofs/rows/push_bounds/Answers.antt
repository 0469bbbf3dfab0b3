use Rattle.ta_encode.proofs.Common.{pos, ◌∷◌, [], ap, arith, map, take, get_or, each_get_or, Bound, Low, bound_row, BoundWithin, take_all}
use Rattle.ta_encode.proofs.Adding.{adds_join, adds_none, adds_same, map_more}
use Rattle.ta_encode.proofs.rows.push_bounds.Goals as goal

pub push_bound-requires-clause-bound : goal.push_bound-requires-clause-bound
push_bound-requires-clause-bound c =
    let d : Bound = record { unknown = 0; floor = pos 0; side = Low } in
    each_get_or (BoundWithin c.args.unknowns) c.args.bounds.now c.loop-bound.bound-index d c.requires.bounds c.loop-bound-test.true

pub loop-bound-preserved : goal.loop-bound-preserved
loop-bound-preserved c =
    let bounds = c.args.bounds.now in
    let i = c.loop-bound.bound-index in
    let d : Bound = record { unknown = 0; floor = pos 0; side = Low } in
    let done = map bound_row (take i bounds) in
    let n = c.args.unknowns in
    let before = c.args.rows.now.items in
    let after = c.push_bound.new.rows.items in
    let added = adds_join done (bound_row (get_or bounds i d) ∷ []) n before c.loop-bound.rows.items after c.loop-bound.invariant c.in_ok-push_bound.ensures in
    adds_same _ _ n before after (map_more bound_row bounds i d c.loop-bound-test.true) added

pub loop-bound-init : goal.loop-bound-init
loop-bound-init c = adds_none c.args.unknowns c.args.rows.now.items

pub returns : goal.returns
returns c =
    let all = take_all c.loop-bound.bound-index c.args.bounds.now (let end = c.loop-bound-test.false in omega arith) in
    adds_same _ _ c.args.unknowns c.args.rows.now.items c.loop-bound.rows.items (ap (map bound_row) all) c.loop-bound.invariant
