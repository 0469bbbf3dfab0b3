-- a budget of nodes and its digits
use Rattle.ta_program.proofs.Common.{arith, ◌≡◌, ◌≤◌, ◌<◌, ◌^◌, ◌&&◌, ℕ, List, length, nat_lt, nat_le, true, false, list_all, false_from_ne_true, is_budget}
use Rattle.ta_program.proofs.Common.{and_parts}
use Rattle.std.specs.Char.{is_ascii_digit}
use Rattle.std.specs.Str.Parse.{digits_value, without_leading_plus, IsNumeral}
use Rattle.std.proofs.lemmas.Bool.Decides.{nat_tests}
use Rattle.std.proofs.lemmas.Str.Parse.{not_in_digits, without_leading_plus_none}
use Rattle.ta_base.proofs.DecimalDigits.{digits_model}

-- digits that no number of 64 bits has are no budget
pub no_budget : (text : List ℕ) → list_all is_ascii_digit text ≡ true → 0 < length text
    → ¬ (IsNumeral 10 (without_leading_plus text) × digits_value 10 (without_leading_plus text) < 2 ^ 64) → is_budget text ≡ false
no_budget text digits some none =
    let same : without_leading_plus text ≡ text = without_leading_plus_none text
    (not_in_digits digits_model text 43 digits (λ range. omega (arith, range.0)) 0 some) in
    false_from_ne_true (is_budget text) (λ passed.
    let last : nat_le (digits_value 10 text) 1000000000 ≡ true =
    (and_parts (nat_lt 0 (length text) && nat_le (length text) 10 && list_all is_ascii_digit text && nat_le 1 (digits_value 10 text))
    (nat_le (digits_value 10 text) 1000000000) passed).1 in
    let small : digits_value 10 text ≤ 1000000000 = grind (arith, nat_tests) in
    none (rw same ((some, digits_model.to text digits), omega (arith, small))))
