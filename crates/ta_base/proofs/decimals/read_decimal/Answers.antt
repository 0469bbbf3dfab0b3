use Rattle.ta_base.proofs.Common.{◌<◌, ◌≤◌, ◌^◌, arith, sym, ℕ, digits_value}
use Rattle.ta_base.proofs.Digits.{none_padded}
use Rattle.ta_base.proofs.decimals.read_decimal.Goals as goal
use Rattle.ta_base.proofs.DecimalDigits.{none_large, number_at}

le_of_lt : (limit : ℕ) → limit < 2 ^ 128 → limit ≤ 2 ^ 128
le_of_lt limit low = omega arith

le_of_none : (value limit : ℕ) → limit < 2 ^ 128 → (value < 2 ^ 128 → ⊥) → limit ≤ value
le_of_none value limit small none = omega (arith, none)

pub returns-then-is_padded : goal.returns-then-is_padded
returns-then-is_padded c = none_padded c.args.limit c.args.bytes.now _ _ (le_of_lt c.args.limit c.ranges.limit.fits) c.split_digits.ensures
    (sym c.if-is_padded.ensures)

pub value_of_digits-requires : goal.value_of_digits-requires
value_of_digits-requires c = c.split_digits.ensures.digits

pub returns-in_err-value : goal.returns-in_err-value
returns-in_err-value c =
    let ds = c.split_digits.result.0.now in
    let fits = c.ranges.limit.fits in
    rw c.from_residual.ensures (none_large c.args.limit c.args.bytes.now ds _ (le_of_lt c.args.limit fits) c.split_digits.ensures
    (le_of_none (digits_value 10 ds) c.args.limit fits (λ h. c.in_err-value.ensures h)))

pub returns-then-value-limit : goal.returns-then-value-limit
returns-then-value-limit c =
    number_at c.args.limit c.in_ok-value.value c.args.bytes.now c.split_digits.result.0.now _ (le_of_lt c.args.limit c.ranges.limit.fits) c.split_digits.ensures
    (sym c.if-is_padded.ensures) c.in_ok-value.ensures.1 c.if-value-limit.true

pub returns-else-value-limit : goal.returns-else-value-limit
returns-else-value-limit c =
    let ds = c.split_digits.result.0.now in
    let value = c.in_ok-value.ensures.1 in
    none_large c.args.limit c.args.bytes.now ds _ (le_of_lt c.args.limit c.ranges.limit.fits) c.split_digits.ensures (omega arith)
