use Rattle.ta_revised.proofs.Common.{◌≡◌, ◌<◌, ◌^◌, ap, arith, pos, ◌<ℤ◌, sym, ◌∙◌, ℕ, int_div, to_z-of_z, to_z_pos, quot_fits, ints, fits_signed_from_abs}
use Rattle.ta_revised.proofs.Common.{SFits, to_z, w16, div-one, gcd_of_is, factor_divisor}
use Rattle.ta_revised.proofs.Bounded.{factor_small, first_one, second_one}
use Rattle.ta_revised.proofs.narrow_rows.narrow_factors.Goals.{After-gcd_narrow-divisor}
use Rattle.ta_revised.proofs.narrow_rows.narrow_factors.Goals as goal

is_divisor : (c : After-gcd_narrow-divisor) → c.gcd_narrow-divisor.result ≡ factor_divisor c.args.c c.args.a
is_divisor c =
    let fc = c.ranges.c in
    let fa = c.ranges.a in
    let u = simp to_z-of_z at c.unsigned_abs.ensures.value in
    let v = simp to_z-of_z at c.unsigned_abs-2.ensures.value in
    rw (u, v) at (gcd_of_is _ _ _ c.gcd_narrow-divisor.ensures)

pub returns-then-c-eq1-clause-first : goal.returns-then-c-eq1-clause-first
returns-then-c-eq1-clause-first c = first_one c.args.c c.args.a (sym (to_z-of_z w16 c.args.c c.ranges.c) ∙ ap (to_z w16) c.if-c-eq1.true)

pub returns-then-c-eq1-clause-second : goal.returns-then-c-eq1-clause-second
returns-then-c-eq1-clause-second c =
    let fa = c.ranges.a in
    simp to_z-of_z (second_one c.args.c c.args.a (sym (to_z-of_z w16 c.args.c c.ranges.c) ∙ ap (to_z w16) c.if-c-eq1.true))

-- it is positive, and fits
small : (c : After-gcd_narrow-divisor) → (0 < c.gcd_narrow-divisor.result) × (c.gcd_narrow-divisor.result < 2 ^ 15)
small c = factor_small c.args.c c.args.a c.gcd_narrow-divisor.result (is_divisor c) c.requires.positive c.ranges.c

pub overflow_cast-divisor : goal.overflow_cast-divisor
overflow_cast-divisor c = fits_signed_from_abs w16 (pos c.gcd_narrow-divisor.result) (small (goal.at.overflow_cast-divisor c).After-gcd_narrow-divisor).1

pub nonzero_div-result : goal.nonzero_div-result
nonzero_div-result c =
    let fc = c.ranges.c in
    let s = small (goal.at.nonzero_div-result c).After-gcd_narrow-divisor in
    let some = s.0 in
    let z = to_z_pos w16 c.gcd_narrow-divisor.result s.1 in
    let above : pos 0 <ℤ pos c.gcd_narrow-divisor.result = omega (arith, ints, some) in
    (some, simp to_z-of_z (rw z (quot_fits w16 c.args.c (pos c.gcd_narrow-divisor.result) fc above)))

pub nonzero_div-result-2 : goal.nonzero_div-result-2
nonzero_div-result-2 c =
    let fa = c.ranges.a in
    let s = small (goal.at.nonzero_div-result-2 c).After-gcd_narrow-divisor in
    let some = s.0 in
    let z = to_z_pos w16 c.gcd_narrow-divisor.result s.1 in
    let above : pos 0 <ℤ pos c.gcd_narrow-divisor.result = omega (arith, ints, some) in
    (some, simp to_z-of_z (rw z (quot_fits w16 c.args.a (pos c.gcd_narrow-divisor.result) fa above)))

pub returns : goal.returns
returns c =
    let fc = c.ranges.c in
    let fa = c.ranges.a in
    let d = is_divisor (goal.at.returns c).After-gcd_narrow-divisor in
    let s = small (goal.at.returns c).After-gcd_narrow-divisor in
    let some = s.0 in
    let z = to_z_pos w16 c.gcd_narrow-divisor.result s.1 in
    let above : pos 0 <ℤ pos c.gcd_narrow-divisor.result = omega (arith, ints, some) in
    let f1 : SFits w16 (int_div c.args.c (pos c.gcd_narrow-divisor.result)) = quot_fits w16 c.args.c (pos c.gcd_narrow-divisor.result) fc above in
    let f2 : SFits w16 (int_div c.args.a (pos c.gcd_narrow-divisor.result)) = quot_fits w16 c.args.a (pos c.gcd_narrow-divisor.result) fa above in
    record {
      first = rw z (simp to_z-of_z (ap (λ (n : ℕ). int_div c.args.c (pos n)) d));
      second = rw z (simp to_z-of_z (ap (λ (n : ℕ). int_div c.args.a (pos n)) d));
    }

pub returns-then-divisor-eq1 : goal.returns-then-divisor-eq1
returns-then-divisor-eq1 c =
    let fc = c.ranges.c in
    let fa = c.ranges.a in
    let d = is_divisor (goal.at.returns-then-divisor-eq1 c).After-gcd_narrow-divisor in
    let one : factor_divisor c.args.c c.args.a ≡ 1 = sym d ∙ c.if-divisor-eq1.true in
    record {
      first = simp to_z-of_z (sym (ap (λ (n : ℕ). int_div c.args.c (pos n)) one ∙ div-one c.args.c));
      second = simp to_z-of_z (sym (ap (λ (n : ℕ). int_div c.args.a (pos n)) one ∙ div-one c.args.a));
    }
