-- Numbers in decimal: the digits of each, and the number of digits
use Rattle.ta_base.proofs.Common.{ℕ, ◌+◌, ◌/◌, ◌%◌, ◌^◌, ◌<◌, ◌≤◌, ◌≡◌, ◌≢◌, true, false, List, [], ◌∷◌, ◌++◌, length, get_or, refl, sym, ap, ◌∙◌, decimal}
use Rattle.ta_base.proofs.Common.{arith, rules, tests, IsTrue, ◌-◌, false≢true, decimal_by_steps_wide, is_ascii_digit, digit_value, AllByRecursion, nat_tests}
use Rattle.ta_base.proofs.Common.{DigitsAt, NoDecimalAt, is_padded, All-get_or, All-from_recursion, BeginsNoDigit}
use Rattle.ta_base.proofs.DecimalDigits.{digits_are, decimal_digits, digits_unique}
use Rattle.ta_base.proofs.Naturals.{wide, small_is_wide}

-- what a number's digits begin with
Begins : ℕ → List ℕ → Type 0
Begins n ds = (0 < n → 48 < get_or ds 0 0) × (0 < length ds) × (is_padded ds ≡ false)

-- one digit more leaves the beginning
begins_more : (n x : ℕ) (ds : List ℕ) → 0 < n → Begins n ds → (48 < get_or (ds ++ (x ∷ [])) 0 0) × (0 < length (ds ++ (x ∷ [])))
    × (is_padded (ds ++ (x ∷ [])) ≡ false)
unfolding Begins
begins_more n x [] some b = absurd (omega (arith, b.1))
begins_more n x (c ∷ []) some b = let high = b.0 some in let other : c ≢ 48 = omega arith in (high, omega arith, search (rules, tests))
begins_more n x (c ∷ e ∷ es) some b = let high = b.0 some in let other : c ≢ 48 = omega arith in (high, omega arith, search (rules, tests))

-- each number begins so
begins_all : (n : ℕ) → n < 10 ^ 64 → Begins n (decimal n)
unfolding Begins
begins_all = decimal_by_steps_wide Begins (λ n low. (λ some. omega arith, omega arith, refl))
    (λ n ds high b. let some : 0 < n / 10 = omega arith in let m = begins_more (n / 10) (48 + n % 10) ds some b in (λ _. m.0, m.1, m.2))

-- a number isn't padded
pub decimal_plain : (n : ℕ) → n < 10 ^ 64 → is_padded (decimal n) ≡ false
unfolding Begins
decimal_plain n below = (begins_all n below).2

-- padded digits are no number
pub none_padded : (limit : ℕ) (bytes ds after : List ℕ) → limit ≤ 2 ^ 128 → DigitsAt bytes ds after → is_padded ds ≡ true → NoDecimalAt limit bytes
none_padded limit bytes ds after small found padded n rest at =
    let same = digits_are limit n bytes ds after rest small found at in
    false≢true (sym (decimal_plain n (wide n limit at.below small)) ∙ ap is_padded (sym same.0) ∙ padded)

pub digit_at : (ds : List ℕ) (i : ℕ) → AllByRecursion (λ c. IsTrue (is_ascii_digit c)) ds → i < length ds → is_ascii_digit (get_or ds i 0) ≡ true
digit_at ds i all h = All-get_or (λ c. IsTrue (is_ascii_digit c)) ds i 0 h (All-from_recursion (λ c. IsTrue (is_ascii_digit c)) ds all)

pub value_of_digit : (c : ℕ) → is_ascii_digit c ≡ true → digit_value c ≡ c - 48
value_of_digit c h = grind (arith, nat_tests)

-- a numeral begins by a digit
pub no_numeral : (m : ℕ) (x y : List ℕ) → m < 2 ^ 127 → BeginsNoDigit x → BeginsNoDigit y → decimal m ++ x ≡ y → ⊥
no_numeral m x y low ends stops e =
    let none = (digits_unique (decimal m) [] x y (decimal_digits m (small_is_wide m low)) tt ends stops e).0 in
    false≢true (sym (decimal_plain m (small_is_wide m low)) ∙ ap is_padded none)
