use Rattle.ta_revised.proofs.Common.{◌≡◌, arith, ap, ◌∙◌, sym, ℕ, pos, ◌<◌, ◌^◌, ints, to_z_pos, fits_signed_from_abs, narrow_view, divided, unsigned_abs}
use Rattle.std.specs.Int.{w16}
use Rattle.ta_revised.proofs.Bounded.{divisor_le}
use Rattle.ta_dense.proofs.ReduceFacts.{divided-one}
use Rattle.ta_revised.proofs.narrow_rows.reduce_narrow.Goals.{After-divisor_of_narrow-divisor}
use Rattle.ta_revised.proofs.narrow_rows.reduce_narrow.Goals as goal

-- the divisor is below the bound
below : (c : After-divisor_of_narrow-divisor) → c.divisor_of_narrow-divisor.result < 2 ^ 15
below c =
    let le = divisor_le (narrow_view c.args.row.now) c.requires.proper.positive in
    let e = c.divisor_of_narrow-divisor.ensures.value in
    omega (arith, e)

pub overflow_cast-divisor : goal.overflow_cast-divisor
overflow_cast-divisor c = fits_signed_from_abs w16 (pos c.divisor_of_narrow-divisor.result)
    (below (goal.at.overflow_cast-divisor c).After-divisor_of_narrow-divisor)

pub divide_narrow_row-requires : goal.divide_narrow_row-requires
divide_narrow_row-requires c =
    let p = c.divisor_of_narrow-divisor.ensures.positive in
    rw (to_z_pos w16 c.divisor_of_narrow-divisor.result (below (goal.at.divide_narrow_row-requires c).After-divisor_of_narrow-divisor)) (omega (arith, ints, p))

pub returns-else-divisor-gt1-clause-value : goal.returns-else-divisor-gt1-clause-value
returns-else-divisor-gt1-clause-value c =
    let v = c.divisor_of_narrow-divisor.ensures.value in
    let one : 1 ≡ c.divisor_of_narrow-divisor.result = omega arith in
    sym (divided-one (narrow_view c.args.row.now)) ∙ ap (λ (g : ℕ). divided g (narrow_view c.args.row.now)) (one ∙ v)

pub returns-in_ok-divide_narrow_row-clause-value : goal.returns-in_ok-divide_narrow_row-clause-value
returns-in_ok-divide_narrow_row-clause-value c =
    let b = below (goal.at.returns-in_ok-divide_narrow_row-clause-value c).After-divisor_of_narrow-divisor in
    c.in_ok-divide_narrow_row.ensures.value ∙ ap (λ (g : ℕ). divided g (narrow_view c.args.row.now))
    (ap unsigned_abs (to_z_pos w16 c.divisor_of_narrow-divisor.result b) ∙ c.divisor_of_narrow-divisor.ensures.value)
