use Rattle.ta_walk.proofs.Common.{◌≡◌, ◌∙◌, ◌<◌, ◌≤◌, ◌^◌, ℕ, ℤ, pos, ◌<ℤ◌, arith, sym, subst, w128, ints}
use Rattle.std.proofs.lemmas.Int.{to_z_pos}
use Rattle.ta_walk.proofs.Lowest.{denominator_some, given_length}
use Rattle.ta_walk.proofs.moment_vertices.over_common_denominator.Goals as goal

pub invariant_of-result : goal.invariant_of-result
invariant_of-result c =
    let is = c.in-Some.ensures in
    let some : 0 < c.in-Some.denominator = subst (λ (n : ℕ). 0 < n) (sym is.1) (denominator_some c.args.values.now) in
    let fits : c.in-Some.denominator < 2 ^ 127 = subst (λ (n : ℕ). n < 2 ^ 127) (sym is.1) is.0 in
    let long = given_length _ c.in-Some.denominator c.args.values.now c.in-Some-2.numbers (sym c.in-Some-2.is ∙ c.in_ok-numbers_over.ensures) in
    let most = c.requires in
    record {
      positive = subst (λ (z : ℤ). pos 0 <ℤ z) (sym (to_z_pos w128 c.in-Some.denominator fits)) (omega (arith, ints, some));
      few = omega (arith, long, most);
    }
