use Rattle.ta_revised.proofs.Common.{arith, ℕ, sym, subst, one-dvd, dvd_of_mod-eq-zero, dvd_refl, le_of_dvd, ◌∣◌}
use Rattle.std.proofs.Math.Nat.{mul-pos}
use Rattle.ta_revised.proofs.ScaleFacts.{divisor_above, divides_multiple, quotient_above}
use Rattle.ta_revised.proofs.values.common_multiple.Goals as goal

pub returns-then-denominator-eq1-clause-second : goal.returns-then-denominator-eq1-clause-second
returns-then-denominator-eq1-clause-second c = subst (λ (m : ℕ). m ∣ c.args.scale) (sym c.if-denominator-eq1.true) (one-dvd c.args.scale)

pub returns-then-scale-denominator-eq0-clause-second : goal.returns-then-scale-denominator-eq0-clause-second
returns-then-scale-denominator-eq0-clause-second c = dvd_of_mod-eq-zero c.args.denominator c.if-scale-denominator-eq0.true

pub overflow_cast-divisor : goal.overflow_cast-divisor
overflow_cast-divisor c =
    let divides = c.gcd_narrow-divisor.ensures in
    omega (arith, le_of_dvd c.requires.scale divides.0, c.requires.few)

pub nonzero_div-multiple : goal.nonzero_div-multiple
nonzero_div-multiple c = divisor_above _ c.args.scale c.requires.scale c.gcd_narrow-divisor.ensures.0

pub returns-clause-first : goal.returns-clause-first
returns-clause-first c =
    let divides = c.gcd_narrow-divisor.ensures in
    divides_multiple c.args.scale c.args.denominator _ divides.0 divides.1

pub returns-clause-positive : goal.returns-clause-positive
returns-clause-positive c = mul-pos (quotient_above _ c.args.scale c.requires.scale c.gcd_narrow-divisor.ensures.0) c.requires.positive

pub returns-then-scale-denominator-eq0-clause-first : goal.returns-then-scale-denominator-eq0-clause-first
returns-then-scale-denominator-eq0-clause-first c = dvd_refl c.args.scale
