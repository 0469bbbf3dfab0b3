use Rattle.ta_walk.proofs.Common.{rules, ◌≡◌, ℤ, sym, subst, to_z, of_z, FitsSigned, w128, InRange, bound_start}
use Rattle.std.proofs.Math.Facts.{to_z-of_z}
use Rattle.ta_encode.specs.Inside.Lines.{bound_constant}
use Rattle.ta_moment_tree.specs.Systems.{bound_form}
use Rattle.ta_walk.proofs.NodesKnown.{constant_out}
use Rattle.ta_walk.proofs.bounds.is_bound_met.Goals as goal

pub returns-in-None : goal.returns-in-None
returns-in-None c =
    let b = c.args.bound in
    let floor : FitsSigned w128 b.floor = search rules in
    let same : to_z w128 (of_z w128 b.floor) ≡ b.floor = to_z-of_z floor in
    let out : InRange (bound_form b).constant → ⊥ =
    λ h. c.in-None.ensures (subst (λ (z : ℤ). InRange (bound_constant b.side z)) (sym same) (subst InRange (sym (bound_start b)) h)) in
    constant_out c.args.vertex.now (bound_form b) out
