use Rattle.ta_revised.proofs.Common.{◌≡◌, ℕ, ◌%◌, arith, subst, unsigned_abs, to_z-of_z, mod_below}
use Rattle.ta_revised.proofs.Halves.{halved_odd, halved_even}
use Rattle.ta_revised.proofs.narrow_cells.halved.Goals as goal

pub returns-then-unsigned_abs-eq1-clause-value : goal.returns-then-unsigned_abs-eq1-clause-value
returns-then-unsigned_abs-eq1-clause-value c =
    let fx = c.ranges.cell in
    let u = simp to_z-of_z at c.unsigned_abs.ensures.value in
    halved_odd c.args.divisor (unsigned_abs c.args.cell) c.requires.some c.requires.few (subst (λ (n : ℕ). n % 2 ≡ 1) u c.if-unsigned_abs-eq1.true)

pub returns-else-unsigned_abs-eq1-clause-value : goal.returns-else-unsigned_abs-eq1-clause-value
returns-else-unsigned_abs-eq1-clause-value c =
    let fx = c.ranges.cell in
    let u = simp to_z-of_z at c.unsigned_abs.ensures.value in
    let below = mod_below c.unsigned_abs.result 2 (omega arith) in
    let zero : c.unsigned_abs.result % 2 ≡ 0 = omega arith in
    halved_even c.args.divisor (unsigned_abs c.args.cell) c.requires.some c.requires.few (subst (λ (n : ℕ). n % 2 ≡ 0) u zero)
