use Rattle.ta_dense.proofs.Common.{◌≡◌, arith, ap, ◌∙◌, sym, ℕ, to_z_pos, w128, row_view, divided, unsigned_abs}
use Rattle.ta_dense.proofs.ReduceFacts.{divided-one}
use Rattle.ta_dense.proofs.rows.reduce.Goals as goal

pub returns-else-divisor-gt1 : goal.returns-else-divisor-gt1
returns-else-divisor-gt1 c =
    let v = c.divisor_of_row-divisor.ensures.value in
    let one : 1 ≡ c.divisor_of_row-divisor.result = omega arith in
    sym (divided-one (row_view c.args.row.now)) ∙ ap (λ (g : ℕ). divided g (row_view c.args.row.now)) (one ∙ v)

pub returns-then-divisor-gt1 : goal.returns-then-divisor-gt1
returns-then-divisor-gt1 c =
    let b = c.divisor_of_row-divisor.ensures.bound in
    c.divide_row.ensures ∙ ap (λ (g : ℕ). divided g (row_view c.args.row.now))
    (ap unsigned_abs (to_z_pos w128 c.divisor_of_row-divisor.result b) ∙ c.divisor_of_row-divisor.ensures.value)
