use Rattle.ta_walk.proofs.Common.{◌^◌, sym, subst, refl, AreMultipliers, LeafOf, CheckStays}
use Rattle.ta_walk.proofs.Nodes.{judgeable, leaf_at, leaf_out_of_range}
use Rattle.ta_walk.proofs.node.take_refuted.Goals as goal

pub check_leaf-requires : goal.check_leaf-requires
check_leaf-requires g c =
    subst (AreMultipliers 0 (2 ^ 32)) (sym c.as_slice.ensures)
    (judgeable c.args.system.now c.args.multipliers c.requires.few c.requires.refuted)

pub returns-in-Ok : goal.returns-in-Ok
returns-in-Ok g c = λ s w is.
    let system = c.args.system.now in
    let ok = c.in-Ok.ensures.ok.0 refl in
    let stays = subst (CheckStays system) c.as_slice.ensures ok.1 in
    leaf_at s w system c.args.multipliers is c.requires.refuted stays

pub returns-in-Err : goal.returns-in-Err
returns-in-Err g c = λ s w is.
    let system = c.args.system.now in
    leaf_out_of_range s w system c.args.multipliers is c.requires.refuted (λ leaf stays.
    let is_ok = c.in-Err.ensures.ok.1 (subst (LeafOf system) (sym c.as_slice.ensures) leaf, subst (CheckStays system) (sym c.as_slice.ensures) stays) in
    cc)
