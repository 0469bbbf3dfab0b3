-- The numbers that digits write.
use Rattle.ta_meaning.proofs.Common.{◌≡◌, ℕ, ◌+◌, ◌*◌, ◌-◌, ◌<◌, ◌≤◌, List, [], length, take, get_or, ltb, arith, nat_tests, Decides-ltb, IsDigits, Digits}
use Rattle.ta_meaning.proofs.Common.{digits_all, number_of, First, digits_faults}
use Rattle.std.proofs.lemmas.Int.Digits.{digits_value_more}
use Rattle.std.proofs.lemmas.Str.Parse.{digits_value-take-le}
use Rattle.ta_meaning.proofs.Answering.{where-leads, not-where}
use Rattle.ta_base.proofs.Digits.{digit_at, value_of_digit}
use Rattle.ta_syntax.specs.declared.fault.FileFault.TheVariants as fault

-- the number with one more digit
pub number_more : (ds : List ℕ) (i : ℕ) → IsDigits ds → i < length ds → number_of (take (i + 1) ds) ≡ 10 * number_of (take i ds) + (get_or ds i 0 - 48)
number_more ds i all h =
    let value = value_of_digit (get_or ds i 0) (digit_at ds i (digits_all ds all) h) in
    omega (arith, digits_value_more 10 ds i h, value)

-- a number whose first digits are above 1,000,000,000 is too large
pub too_large_at : (d : Digits) (i : ℕ) → 1000000000 < number_of (take i d.text) → First (digits_faults d) (fault.TooLarge d.at)
too_large_at d i h =
    let whole = digits_value-take-le 10 d.text i (omega arith) in
    where-leads (ltb 1000000000 (number_of d.text)) (fault.TooLarge d.at) ((Decides-ltb 1000000000 (number_of d.text)).1 (omega (arith, whole)))

pub number_is_small : (d : Digits) → digits_faults d ≡ [] → number_of d.text ≤ 1000000000
number_is_small d none =
    let test = not-where (ltb 1000000000 (number_of d.text)) (fault.TooLarge d.at) none in
    grind (arith, nat_tests)
