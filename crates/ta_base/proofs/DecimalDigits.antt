-- decimal digits and the numbers that they write
use Rattle.ta_base.proofs.Common.{ℕ, ◌≡◌, true, ◌<◌, rules, tests, arith, List, ◌≤◌, [], ◌∷◌, ◌*◌, ◌+◌, ◌^◌, decimal, ◌++◌, ◌/◌, ◌%◌, ◌∙◌, ap, sym, append-nil}
use Rattle.ta_base.proofs.Common.{append_assoc, false, ◌≢◌, length, take, get_or, ◌-◌, refl, subst, Bool, drop, cond, one-add, take-append-drop, IsTrue}
use Rattle.ta_base.proofs.Common.{IsAscii, ℤ, pos, ◌≤ℤ◌, ◌<ℤ◌, negsuc, lit≤, lit<, Option, Some, None, codes, is_ascii_digit, digit_value, digits_value_after}
use Rattle.ta_base.proofs.Common.{AllDigits, digits_value, decimal_step_wide, decimal_digit, decimal_is_IsNumeral_wide, length-decimal-le_wide}
use Rattle.ta_base.proofs.Common.{decimal_injective, decimal_is_IsNumeral, false≢true, prefix_len, AllByRecursion, list_all, nat_tests, IsAscii-nil}
use Rattle.ta_base.proofs.Common.{IsAscii-cons, signed_decimal, ints, is_padded, BeginsNoDigit, DigitsAt, DecimalAt, NoDecimalAt, IsDecimal, Avoids, is_letter}
use Rattle.ta_base.proofs.Common.{unsigned_abs}
use Rattle.std.proofs.lemmas.Str.{digit_value_digit}
use Rattle.std.proofs.lemmas.Str.Parse.{digit_from_value, digit_at, digits_value-take-le, IsNumeralModel, numerals_by_value}
use Rattle.std.proofs.lemmas.Int.Digits.{digits_value_more}
use Rattle.ta_base.proofs.Naturals.{wide, small_is_wide}
use Rattle.ta_base.proofs.Integers.{abs_natural}
use Rattle.ta_base.proofs.Lists.{avoids-append}

-- a digit's test and its value
digit_is : (c : ℕ) → is_ascii_digit c ≡ true → digit_value c < 10
digit_is c e = grind (arith, nat_tests)

is_digit : (c : ℕ) → digit_value c < 10 → is_ascii_digit c ≡ true
is_digit c low = grind (arith, nat_tests, digit_from_value c low)

-- the value only grows
after_ge : (n : ℕ) (ds : List ℕ) → n ≤ digits_value_after 10 n ds
after_ge n [] = omega arith
after_ge n (c ∷ cs) = omega (arith, after_ge (n * 10 + digit_value c) cs)

-- digits behind those of a number that isn't 0
decimal_after : (n : ℕ) (ds : List ℕ) → 0 < n → AllDigits 10 ds → digits_value_after 10 n ds < 10 ^ 64 → decimal (digits_value_after 10 n ds) ≡ decimal n ++ ds
decimal_after n [] some digits below = sym (append-nil (decimal n))
decimal_after n (c ∷ cs) some digits below =
    let m : ℕ = n * 10 + digit_value c in
    let value = digit_value_digit c (digit_from_value c digits.0) in
    let front : m / 10 ≡ n = omega (arith, digits.0) in
    let end : 48 + m % 10 ≡ c = omega (arith, digits.0) in
    let step = decimal_step_wide m (omega arith) (omega (arith, after_ge m cs)) in
    decimal_after m cs (omega arith) digits.1 below ∙ ap (λ xs. xs ++ cs) (step ∙ (λ i. decimal (front i) ++ (end i ∷ [])))
    ∙ append_assoc (decimal n) (c ∷ []) cs

-- digits that aren't padded are the decimal of their value
pub decimal-digits : (ds : List ℕ) → AllDigits 10 ds → is_padded ds ≡ false → digits_value 10 ds < 10 ^ 64 → decimal (digits_value 10 ds) ≡ ds
decimal-digits [] digits plain below = absurd (false≢true (sym plain))
decimal-digits (c ∷ []) digits plain below =
    let value = digit_value_digit c (digit_from_value c digits.0) in
    decimal_digit (0 * 10 + digit_value c) (omega (arith, digits.0)) ∙ ap (λ g. g ∷ []) (omega arith)
decimal-digits (c ∷ e ∷ es) digits plain below =
    let value = digit_value_digit c (digit_from_value c digits.0) in
    let other : c ≢ 48 = search (rules, tests) in
    let glyph : 48 + (0 * 10 + digit_value c) ≡ c = omega arith in
    let front = decimal_digit (0 * 10 + digit_value c) (omega (arith, digits.0)) ∙ ap (λ g. g ∷ []) glyph in
    decimal_after (0 * 10 + digit_value c) (e ∷ es) (omega arith) digits.1 below ∙ ap (λ xs. xs ++ (e ∷ es)) front

-- the value of one digit more, which isn't above that of all
pub value_more : (ds : List ℕ) (i n : ℕ) → i < length ds → AllDigits 10 ds → n ≡ digits_value 10 (take i ds)
    → (n * 10 + (get_or ds i 0 - 48) ≡ digits_value 10 (take (i + 1) ds)) × (digits_value 10 (take (i + 1) ds) ≤ digits_value 10 ds) × (48 ≤ get_or ds i 0)
value_more ds i n within digits so_far =
    let range = digit_at ds i digits within in
    let value = digit_value_digit (get_or ds i 0) range in
    let more = digits_value_more 10 ds i within in
    (omega arith, digits_value-take-le 10 ds (i + 1) (omega arith), range.0)

-- a number is written in digits
pub decimal_digits : (n : ℕ) → n < 10 ^ 64 → AllDigits 10 (decimal n)
decimal_digits n below = (decimal_is_IsNumeral_wide n below).0.1

-- the value of the digits is the number
pub value-decimal : (n : ℕ) → n < 10 ^ 64 → digits_value 10 (decimal n) ≡ n
value-decimal n below = (decimal_is_IsNumeral_wide n below).1

-- digits up to where no digit stands are one list
pub digits_unique : (xs ys r s : List ℕ) → AllDigits 10 xs → AllDigits 10 ys → BeginsNoDigit r → BeginsNoDigit s → xs ++ r ≡ ys ++ s → (xs ≡ ys) × (r ≡ s)
digits_unique [] [] r s dx dy nr ns e = (refl, e)
digits_unique [] (y ∷ ys) r s dx dy nr ns e = absurd (false≢true (sym (subst BeginsNoDigit e nr) ∙ is_digit y dy.0))
digits_unique (x ∷ xs) [] r s dx dy nr ns e = absurd (false≢true (sym (subst BeginsNoDigit (sym e) ns) ∙ is_digit x dx.0))
digits_unique (x ∷ xs) (y ∷ ys) r s dx dy nr ns e =
    let more = digits_unique xs ys r s dx.1 dy.1 nr ns (cc) in
    let same = more.0 in
    (cc, more.1)

-- a number and what stands behind its digits are determined
pub number_unique : (m n : ℕ) (r s : List ℕ) → m < 10 ^ 64 → n < 10 ^ 64 → BeginsNoDigit r → BeginsNoDigit s → decimal m ++ r ≡ decimal n ++ s → (m ≡ n)
    × (r ≡ s)
number_unique m n r s small low nr ns e =
    let parts = digits_unique (decimal m) (decimal n) r s (decimal_digits m small) (decimal_digits n low) nr ns e in
    (sym (value-decimal m small) ∙ ap (digits_value 10) parts.0 ∙ value-decimal n low, parts.1)

-- a number in front of a byte below the digits is determined, and so is what stands behind it
pub number_same : (low m n : ℕ) (r s : List ℕ) → low < 48 → m < 2 ^ 64 → n < 2 ^ 64 → decimal m ++ (low ∷ r) ≡ decimal n ++ (low ∷ s) → (m ≡ n) × (r ≡ s)
number_same low m n r s below small fits e =
    let stop : is_ascii_digit low ≡ false = grind (arith, nat_tests) in
    let parts = number_unique m n (low ∷ r) (low ∷ s) (omega arith) (omega arith) stop stop e in
    let rest = parts.1 in
    (parts.0, cc)

-- the digits that stand first, and what stands behind them
run_at : (c : ℕ) (cs : List ℕ) (k : ℕ) (b : Bool) → is_ascii_digit c ≡ b → AllDigits 10 (take k cs) → BeginsNoDigit (drop k cs)
    → AllDigits 10 (take (cond b (1 + k) 0) (c ∷ cs)) × BeginsNoDigit (drop (cond b (1 + k) 0) (c ∷ cs))
run_at c cs k true e digits ends = rw one-add ((digit_is c e, digits), ends)
run_at c cs k false e digits ends = (tt, e)

run_parts : (bytes : List ℕ) → AllDigits 10 (take (prefix_len is_ascii_digit bytes) bytes) × BeginsNoDigit (drop (prefix_len is_ascii_digit bytes) bytes)
run_parts [] = (tt, tt)
run_parts (c ∷ cs) = run_at c cs (prefix_len is_ascii_digit cs) (is_ascii_digit c) refl (run_parts cs).0 (run_parts cs).1

-- the digits that stand first
pub run : (bytes : List ℕ) → DigitsAt bytes (take (prefix_len is_ascii_digit bytes) bytes) (drop (prefix_len is_ascii_digit bytes) bytes)
run bytes = record { split = sym (take-append-drop (prefix_len is_ascii_digit bytes) bytes); digits = (run_parts bytes).0; ends = (run_parts bytes).1 }

-- the number that stands first has just the digits that stand first
pub digits_are : (limit n : ℕ) (bytes ds after rest : List ℕ) → limit ≤ 2 ^ 128 → DigitsAt bytes ds after → DecimalAt limit bytes n rest → (ds ≡ decimal n)
    × (after ≡ rest)
digits_are limit n bytes ds after rest small found at =
    let low = wide n limit at.below small in
    digits_unique ds (decimal n) after rest found.digits (decimal_digits n low) found.ends at.ends (sym found.split ∙ at.split)

-- digits whose value isn't below the limit are no number below it
pub none_large : (limit : ℕ) (bytes ds after : List ℕ) → limit ≤ 2 ^ 128 → DigitsAt bytes ds after → limit ≤ digits_value 10 ds → NoDecimalAt limit bytes
none_large limit bytes ds after small found large n rest at =
    let same = digits_are limit n bytes ds after rest small found at in
    omega (arith, ap (digits_value 10) same.0 ∙ value-decimal n (wide n limit at.below small))

-- other digits are the number
pub number_at : (limit n : ℕ) (bytes ds after : List ℕ) → limit ≤ 2 ^ 128 → DigitsAt bytes ds after → is_padded ds ≡ false → n ≡ digits_value 10 ds → n < limit
    → DecimalAt limit bytes n after
number_at limit n bytes ds after small found plain value below =
    let low : digits_value 10 ds < 10 ^ 64 = wide (digits_value 10 ds) limit (omega arith) small in
    record {
      split = found.split ∙ ap (λ xs. xs ++ after) (sym (ap decimal value ∙ decimal-digits ds found.digits plain low));
      below = below;
      ends = found.ends;
    }

-- digits of a number have no byte that is no digit
pub digits_avoid : (byte : ℕ) (ds : List ℕ) → byte < 48 → AllDigits 10 ds → Avoids byte ds
digits_avoid byte [] low digits = tt
digits_avoid byte (c ∷ cs) low digits = let range = digit_from_value c digits.0 in let least = range.0 in
    ((λ e. omega arith), digits_avoid byte cs low digits.1)

pub decimal_avoids : (byte limit n : ℕ) → byte < 48 → n < limit → limit ≤ 2 ^ 128 → Avoids byte (decimal n)
decimal_avoids byte limit n low below small = digits_avoid byte (decimal n) low (decimal_digits n (wide n limit below small))

-- where more than a number stands, the bytes are none
pub not_whole : (limit n m : ℕ) (bytes rest : List ℕ) → limit ≤ 2 ^ 128 → DecimalAt limit bytes n rest → 0 < length rest → IsDecimal limit bytes m → ⊥
not_whole limit n m bytes rest small at more is =
    let low = wide n limit at.below small in
    let same = number_unique m n [] rest (wide m limit is.below small) low tt at.ends (append-nil (decimal m) ∙ sym is.text ∙ at.split) in
    omega (arith, ap length same.1)

-- the number that stands first is one
pub number_is : (limit m n : ℕ) (bytes r s : List ℕ) → limit ≤ 2 ^ 128 → DecimalAt limit bytes m r → DecimalAt limit bytes n s → (m ≡ n) × (r ≡ s)
number_is limit m n bytes r s small at is = number_unique m n r s (wide m limit at.below small) (wide n limit is.below small) at.ends is.ends
    (sym at.split ∙ is.split)

-- a number is determined by its text
pub decimal_same : (limit m n : ℕ) → limit ≤ 2 ^ 128 → m < limit → n < limit → decimal m ≡ decimal n → m ≡ n
decimal_same limit m n small low below e = sym (value-decimal m (wide m limit low small)) ∙ ap (digits_value 10) e ∙ value-decimal n (wide n limit below small)

-- and those of digits
digit_ascii : (b : ℕ) → IsTrue (is_ascii_digit b) → b < 128
digit_ascii b h = grind (arith, nat_tests)

pub digits_ascii : (bytes : List ℕ) → AllByRecursion (λ b. IsTrue (is_ascii_digit b)) bytes → IsAscii bytes
digits_ascii [] each = IsAscii-nil
digits_ascii (b ∷ bs) each = IsAscii-cons b bs (digit_ascii b each.0) (digits_ascii bs each.1)

-- ---- by what a token begins
pub letter_no_digit : (b : ℕ) → IsTrue (is_letter b) → is_ascii_digit b ≡ false
letter_no_digit b h = grind (arith, nat_tests)

-- the multiplier is a number and not 0
pub multiplier_number : (z : ℤ) (x rest : List ℕ) → pos 1 ≤ℤ z → z <ℤ pos (2 ^ 127) → x ≡ signed_decimal z ++ rest → (k : ℕ) × (0 < k) × (k < 2 ^ 127)
    × (x ≡ decimal k ++ rest) × (z ≡ pos k)
multiplier_number (pos k) x rest low high e = (k, omega (arith, ints), omega (arith, ints), e, refl)
multiplier_number (negsuc k) x rest low high e = absurd (omega (arith, ints))

-- two guards are determined by their text
pub guards_same : (j h i g : ℕ) → j < 2 ^ 32 → h < 2 ^ 32 → i < 2 ^ 32 → g < 2 ^ 32 → decimal j ++ (32 ∷ decimal i) ≡ decimal h ++ (32 ∷ decimal g) → (j ≡ h)
    × (i ≡ g)
guards_same j h i g low least high most e =
    let parts = number_same 32 j h (decimal i) (decimal g) (omega arith) (omega arith) (omega arith) e in
    (parts.0, decimal_injective i g (omega arith) (omega arith) parts.1)

-- a row or an unknown has at most 10 digits, and a multiplier or a floor at most 39
pub row_short : (k : ℕ) → k < 2 ^ 32 → length (decimal k) ≤ 10
row_short k below = length-decimal-le_wide 10 k (omega arith) (omega arith) (omega arith)

-- the number of a limit, or one below it
pub found_here : (limit : ℕ) (text : List ℕ) (rest : Option ℕ) (b : Bool) → (b ≡ true → text ≡ decimal limit) → (n : ℕ) → n ≤ limit → limit < 2 ^ 64
    → text ≡ decimal n → (n ≢ limit → rest ≡ Some n) → (n ≡ limit → b ≡ true) → cond b (Some limit) rest ≡ Some n
found_here limit text rest true same n within low is below here = ap (λ k. Some k) (decimal_injective limit n low (omega arith) (sym (same refl) ∙ is))
found_here limit text rest false same n within low is below here = below (λ e. absurd (false≢true (here e)))

pub none_here : (limit : ℕ) (text : List ℕ) (rest : Option ℕ) (b : Bool) → (b ≡ true → text ≡ decimal limit) → (text ≢ decimal limit) → rest ≡ None
    → cond b (Some limit) rest ≡ None
none_here limit text rest true same other none = absurd (other (same refl))
none_here limit text rest false same other none = none

-- a numeral and what stands behind it
pub numeral_same : (m n : ℕ) (x y : List ℕ) → m < 2 ^ 127 → n < 2 ^ 127 → BeginsNoDigit x → BeginsNoDigit y → decimal m ++ x ≡ decimal n ++ y → (m ≡ n)
    × (x ≡ y)
numeral_same m n x y low high ends stops e = number_unique m n x y (small_is_wide m low) (small_is_wide n high) ends stops e

-- a number and a letter begin otherwise
front_other : (ds xs : List ℕ) (x : ℕ) (r : List ℕ) → AllDigits 10 ds → 0 < length ds → 58 ≤ x → ds ++ r ≡ x ∷ xs → ⊥
front_other [] xs x r digits some high e = omega arith
front_other (d ∷ ds) xs x r digits some high e =
    let range = digit_from_value d digits.0 in let most = range.1 in let same : d ≡ x = cc in omega arith

pub number_other : (n x : ℕ) (xs r : List ℕ) → n < 2 ^ 64 → 58 ≤ x → decimal n ++ r ≡ x ∷ xs → ⊥
number_other n x xs r fits high e = front_other (decimal n) xs x r (decimal_is_IsNumeral n fits).0.1 (decimal_is_IsNumeral n fits).0.0 high e

-- the lines of a report
pub number_clear : (n : ℕ) → n < 2 ^ 64 → Avoids 10 (decimal n)
number_clear n fits = decimal_avoids 10 (2 ^ 64) n (lit< tt) fits (lit≤ tt)

pub between : (head tail : List ℕ) (n : ℕ) → Avoids 10 head → n < 2 ^ 64 → Avoids 10 tail → Avoids 10 (head ++ (decimal n ++ tail))
between head tail n before fits behind = avoids-append 10 head (decimal n ++ tail) before (avoids-append 10 (decimal n) tail (number_clear n fits) behind)

-- a number of ten digits has no byte that is no digit
pub short_avoids : (byte n : ℕ) → byte < 48 → n < 10 ^ 10 → Avoids byte (decimal n)
short_avoids byte n below low = decimal_avoids byte (10 ^ 10) n below low (lit≤ tt)

-- digits by their test
pub digits_model : IsNumeralModel (λ ds. list_all is_ascii_digit ds ≡ true) (digits_value 10)
digits_model = numerals_by_value _ (search rules)

pub zero_text : codes "0" ≡ decimal 0
zero_text = sym (decimal_digit 0 (omega arith))

pub digit_no_letter : (b : ℕ) → IsTrue (is_ascii_digit b) → is_letter b ≡ false
digit_no_letter b h = grind (arith, nat_tests)
