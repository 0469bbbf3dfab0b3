use Rattle.ta_walk.proofs.Common.{◌^◌, refl, sym, subst, AreMultipliers, LeafOf, slack_tableau, CheckStays, OverflowsAt, IsRefuted, IsVertex}
use Rattle.ta_walk.proofs.PairSystems.{few_variables_of_pair}
use Rattle.ta_walk.proofs.OrdersOnce.{none_overflows, none_at_vertex, none_leaves}
use Rattle.ta_walk.proofs.Nodes.{judgeable}
use Rattle.ta_walk.proofs.finding.refute_pair.Goals as goal

pub solve-requires-after_bounds : goal.solve-requires-after_bounds
solve-requires-after_bounds g c κs within = few_variables_of_pair c.args.automaton.now c.args.before c.args.after c.in_ok-system.system c.in_ok-system.ensures

pub returns-in-Err-Overflow : goal.returns-in-Err-Overflow
returns-in-Err-Overflow g c =
    let system = c.in_ok-system.system in
    let overflows : OverflowsAt (slack_tableau system) c.in-Err-Overflow.field-0-0 = rw c.in-Err-Overflow.field-0-is at c.in-Err-Overflow.ensures.fault in
    none_overflows c.args.automaton.now c.args.before c.args.after system c.in-Err-Overflow.field-0-0 c.in_ok-system.ensures overflows

pub returns-in-Ok-Vertex : goal.returns-in-Ok-Vertex
returns-in-Ok-Vertex g c =
    let system = c.in_ok-system.system in
    let vertex : IsVertex system c.in-Ok-Vertex.field-0-0 = rw c.in-Ok-Vertex.field-0-is at c.in-Ok-Vertex.ensures.ok in
    none_at_vertex c.args.automaton.now c.args.before c.args.after system c.in-Ok-Vertex.field-0-0 c.in_ok-system.ensures vertex

pub check_leaf-requires : goal.check_leaf-requires
check_leaf-requires g c =
    let system = c.in_ok-system.system in
    let refuted : IsRefuted system c.in-Ok-Refuted.multipliers = rw c.in-Ok-Refuted.field-0-is at c.in-Ok-Refuted.ensures.ok in
    subst (AreMultipliers 0 (2 ^ 32)) (sym c.as_slice.ensures)
    (judgeable system c.in-Ok-Refuted.multipliers (few_variables_of_pair c.args.automaton.now c.args.before c.args.after system c.in_ok-system.ensures) refuted)

pub returns-in-Ok : goal.returns-in-Ok
returns-in-Ok g c =
    let system = c.in_ok-system.system in
    let refuted : IsRefuted system c.in-Ok-Refuted.multipliers = rw c.in-Ok-Refuted.field-0-is at c.in-Ok-Refuted.ensures.ok in
    let ok = c.in-Ok.ensures.ok.0 refl in
    let stays = subst (CheckStays system) c.as_slice.ensures ok.1 in
    record { system = system; is = c.in_ok-system.ensures; refuted = refuted; stays = stays }

pub returns : goal.returns
returns g c =
    let system = c.in_ok-system.system in
    let refuted : IsRefuted system c.in-Ok-Refuted.multipliers = rw c.in-Ok-Refuted.field-0-is at c.in-Ok-Refuted.ensures.ok in
    none_leaves c.args.automaton.now c.args.before c.args.after system c.in-Ok-Refuted.multipliers c.in_ok-system.ensures refuted (λ leaf stays.
    let is_ok = c.in-Err.ensures.ok.1 (subst (LeafOf system) (sym c.as_slice.ensures) leaf, subst (CheckStays system) (sym c.as_slice.ensures) stays) in
    cc)
