use Rattle.ta_dense.proofs.Common.{◌≡◌, ap, arith, pos, rules, ◌<ℤ◌, int_div, to_z-of_z, quot_fits, ints, SFits, w128, factor_divisor}
use Rattle.ta_dense.proofs.ReduceFacts.{factor_divisor-is, factors_positive}
use Rattle.ta_dense.proofs.rows.factors.Goals as goal
use Rattle.ta_dense.proofs.rows.factors.Goals.{After-gcd-divisor}

-- the divisor is that of the definition, and positive
is_divisor : (c : After-gcd-divisor) → c.gcd-divisor.result ≡ pos (factor_divisor c.args.c c.args.a)
is_divisor c =
    let fc = c.ranges.c in
    let fa = c.ranges.a in
    let gcd = simp to_z-of_z at c.gcd-divisor.ensures in
    factor_divisor-is c.args.c c.args.a c.gcd-divisor.result gcd.value gcd.natural

above : (c : After-gcd-divisor) → pos 0 <ℤ c.gcd-divisor.result
above c =
    let some = (factors_positive c.args.c c.args.a c.requires.c_positive).0 in
    rw (is_divisor c) (omega (arith, ints, some))

pub nonzero_div-result : goal.nonzero_div-result
nonzero_div-result c =
    let at = (goal.at.nonzero_div-result c).After-gcd-divisor in
    let fc = c.ranges.c in
    let fd : SFits w128 c.gcd-divisor.result = search rules in (
      rw (is_divisor at) (factors_positive c.args.c c.args.a c.requires.c_positive).0,
      simp to_z-of_z
          (quot_fits w128 c.args.c c.gcd-divisor.result fc (above at)),
    )

pub nonzero_div-result-2 : goal.nonzero_div-result-2
nonzero_div-result-2 c =
    let at = (goal.at.nonzero_div-result-2 c).After-gcd-divisor in
    let fa = c.ranges.a in
    let fd : SFits w128 c.gcd-divisor.result = search rules in (
      rw (is_divisor at) (factors_positive c.args.c c.args.a c.requires.c_positive).0,
      simp to_z-of_z
          (quot_fits w128 c.args.a c.gcd-divisor.result fa (above at)),
    )

pub returns : goal.returns
returns c =
    let at = (goal.at.returns c).After-gcd-divisor in
    let fc = c.ranges.c in
    let fa = c.ranges.a in
    let d = is_divisor at in
    let fd : SFits w128 c.gcd-divisor.result = search rules in
    let f1 : SFits w128 (int_div c.args.c c.gcd-divisor.result) = quot_fits w128 c.args.c c.gcd-divisor.result fc (above at) in
    let f2 : SFits w128 (int_div c.args.a c.gcd-divisor.result) = quot_fits w128 c.args.a c.gcd-divisor.result fa (above at) in
    record {
      first = simp to_z-of_z (ap (int_div c.args.c) d);
      second = simp to_z-of_z (ap (int_div c.args.a) d);
      positive = simp to_z-of_z (rw d (factors_positive c.args.c c.args.a c.requires.c_positive).1);
    }
