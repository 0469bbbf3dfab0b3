-- The values that a vertex gives the unknowns: integers over the least common denominator of its fractions. A fraction is a numerator and a
-- denominator, not necessarily in lowest terms.
use Rattle.std.specs.Prelude.{ℕ, ℤ, pos, ◌<◌, ◌<ℤ◌, ◌≡◌, ◌*◌, ◌*ℤ◌, ◌/◌, int_div, unsigned_abs, ◌&&◌, cond, List, [], ◌∷◌, map, Some, None}
use Rattle.std.specs.Int.{◌∣◌}
use Rattle.std.specs.List.{AllByRecursion, list_all}
use Rattle.ta_base.specs.Lists.{Pairwise}
use Rattle.ta_linear.specs.Gcd.{gcd_of}
use Rattle.ta_moments.specs.Questions.{Scaled, Values, fits}

-- the greatest common divisor of a fraction's numerator and denominator, and both in lowest terms
abbrev pub common_divisor : ℤ × ℤ → ℕ
common_divisor f = gcd_of (unsigned_abs f.0) (unsigned_abs f.1)

abbrev pub lowest_numerator : ℤ × ℤ → ℤ
lowest_numerator f = int_div f.0 (pos (common_divisor f))

abbrev pub lowest_denominator : ℤ × ℤ → ℕ
lowest_denominator f = unsigned_abs f.1 / common_divisor f

-- the least common multiple of two numbers
abbrev pub multiple_of : ℕ → ℕ → ℕ
multiple_of m n = m * (n / gcd_of m n)

-- the least common multiple of a number and the denominators of fractions in lowest terms
unfoldable pub denominator_with : ℕ → List (ℤ × ℤ) → ℕ
denominator_with n [] = n
denominator_with n (f ∷ fs) = denominator_with (multiple_of n (lowest_denominator f)) fs

-- the least common denominator of fractions in lowest terms; that of none is 1
abbrev pub common_denominator : List (ℤ × ℤ) → ℕ
common_denominator fs = denominator_with 1 fs

-- a fraction times a multiple of its denominator in lowest terms
abbrev pub number_over : ℕ → ℤ × ℤ → ℤ
number_over n f = pos (n / lowest_denominator f) *ℤ lowest_numerator f

abbrev pub numbers_over : ℕ → List (ℤ × ℤ) → List ℤ
numbers_over n fs = map (number_over n) fs

-- fractions as numbers over a denominator, if it and the numbers are in range
abbrev pub values_over : ℕ → List (ℤ × ℤ) → Values
values_over n fs = cond (fits (pos n) && list_all fits (numbers_over n fs)) (Some (record { denominator = pos n; numbers = numbers_over n fs })) None

-- the values of a vertex: the numbers over the least common denominator
abbrev pub values_of : List (ℤ × ℤ) → Values
values_of fs = values_over (common_denominator fs) fs

-- each denominator is positive
abbrev pub PositiveDenominators : List (ℤ × ℤ) → Type 0
PositiveDenominators fs = AllByRecursion (λ (f : ℤ × ℤ). pos 0 <ℤ f.1) fs

-- a number times a fraction is an integer
abbrev pub MakesWhole : ℕ → ℤ × ℤ → Type 0
MakesWhole n f = unsigned_abs f.1 ∣ (n * unsigned_abs f.0)

-- the common denominator times each fraction is an integer, and it divides each number with this property
abbrev pub CommonDenominatorsAreLeast : Type 0
CommonDenominatorsAreLeast =
    (fs : List (ℤ × ℤ)) → PositiveDenominators fs
    → (0 < common_denominator fs) × AllByRecursion (MakesWhole (common_denominator fs)) fs
    × ((n : ℕ) → AllByRecursion (MakesWhole n) fs → common_denominator fs ∣ n)

-- a number over a denominator is a fraction's value
abbrev pub IsNumberOver : ℤ → ℤ × ℤ → ℤ → Type 0
IsNumberOver denominator f number = number *ℤ f.1 ≡ denominator *ℤ f.0

-- the values are the fractions
abbrev pub ValuesAreTheFractions : Type 0
ValuesAreTheFractions =
    (fs : List (ℤ × ℤ)) → PositiveDenominators fs
    → (values : Scaled) → values_of fs ≡ Some values
    → (values.denominator ≡ pos (common_denominator fs)) × Pairwise (IsNumberOver values.denominator) fs values.numbers

-- integral fractions have their numbers over 1, if these are in range
abbrev pub WholeValuesAreTheirNumbers : Type 0
WholeValuesAreTheirNumbers =
    (fs : List (ℤ × ℤ)) → PositiveDenominators fs
    → (numbers : List ℤ) → Pairwise (IsNumberOver (pos 1)) fs numbers
    → values_of fs ≡ cond (list_all fits numbers) (Some (record { denominator = pos 1; numbers = numbers })) None
