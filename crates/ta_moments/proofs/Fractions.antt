-- common denominators of fractions
use Rattle.ta_moments.proofs.Common.{◌≡◌, ◌∙◌, ℕ, zero, suc, ◌+◌, ◌*◌, ◌<◌, ◌≤◌, ◌^◌, ℤ, pos, ◌*ℤ◌, ◌<ℤ◌, ◌&&◌, List, [], ◌∷◌, map, Some, None, cond, true}
use Rattle.ta_moments.proofs.Common.{false, arith, ap, refl, sym, subst, ints, AllByRecursion, nat_tests, Bool, *ℤ_comm, list_all, expand, Pairwise, Values}
use Rattle.ta_moments.proofs.Common.{fits, unsigned_abs}
use Rattle.std.proofs.Common.{◌/◌, int_div}
use Rattle.std.proofs.lemmas.Int.{unsigned_abs-mul}
use Rattle.std.proofs.Math.Nat.{dvd-mul_left, dvd-mul_right, dvd_of_mul-dvd-mul_left, dvd-mul_left_of_dvd, eq-one_of_dvd-one, mul-div_cancel', mul-dvd-mul_left}
use Rattle.std.proofs.Math.Nat.{one-dvd}
use Rattle.std.proofs.lemmas.Nat.Gcd.{dvd_refl, dvd_trans}
use Rattle.std.specs.Int.{◌∣◌}
use Rattle.ta_base.proofs.Integers.{cancel_positive, div_exact, pos_abs}
use Rattle.ta_linear.proofs.GcdLemmas.{IsGcd-gcd_of, dvd-gcd_of}
use Rattle.ta_linear.specs.Gcd.{gcd_of}
use Rattle.ta_moments.specs.Questions.{Scaled}
use Rattle.ta_moments.specs.Vertices.{CommonDenominatorsAreLeast, IsNumberOver, MakesWhole, PositiveDenominators, ValuesAreTheFractions}
use Rattle.ta_moments.specs.Vertices.{WholeValuesAreTheirNumbers, common_denominator, common_divisor, denominator_with, lowest_denominator, lowest_numerator}
use Rattle.ta_moments.specs.Vertices.{multiple_of, number_over, numbers_over, values_of, values_over}

-- a divisor of a positive number is positive
some_divides : (g k n : ℕ) → g * k ≡ n → 0 < n → (0 < g) × (0 < k)
some_divides zero k n e h = absurd (omega (arith, e, h))
some_divides (suc g) zero n e h = absurd (omega (arith, e, h))
some_divides (suc g) (suc k) n e h = (omega arith, omega arith)

-- a number over its greatest common divisor with another
pub over_common : (t b : ℕ) → 0 < b → (gcd_of t b * (b / gcd_of t b) ≡ b) × (0 < gcd_of t b) × (0 < b / gcd_of t b)
over_common t b h =
    let e = mul-div_cancel' (gcd_of t b) (IsGcd-gcd_of t b).1 in
    let some = some_divides (gcd_of t b) (b / gcd_of t b) b e h in
    (e, some.0, some.1)

-- what makes a fraction whole is a multiple of its denominator in lowest terms, and each multiple does
whole_multiple : (t b n : ℕ) → 0 < b → b ∣ n * t → (b / gcd_of t b) ∣ n
whole_multiple t b n h d =
    let g = gcd_of t b in
    let o = over_common t b h in
    let both : b ∣ n * g = dvd-gcd_of b n t b d (dvd-mul_left b n) in
    let turned : n * g ≡ g * n = omega arith in
    dvd_of_mul-dvd-mul_left (b / g) o.1 (subst (λ (m : ℕ). m ∣ g * n) (sym o.0) (subst (λ (m : ℕ). b ∣ m) turned both))

multiple_whole : (t b n : ℕ) → 0 < b → (b / gcd_of t b) ∣ n → b ∣ n * t
multiple_whole t b n h d =
    let g = gcd_of t b in
    let o = over_common t b h in
    let e : g * (t / g) ≡ t = mul-div_cancel' g (IsGcd-gcd_of t b).0 in
    let scaled : g * (b / g) ∣ g * n = mul-dvd-mul_left (b / g) g d in
    let by : b ∣ g * n = subst (λ (m : ℕ). m ∣ g * n) o.0 scaled in
    let longer : b ∣ (t / g) * (g * n) = dvd-mul_left_of_dvd b by (t / g) in
    subst (λ (m : ℕ). b ∣ m) (products (t / g) g n ∙ ap (λ (m : ℕ). n * m) e) longer where
      products : (k g n : ℕ) → k * (g * n) ≡ n * (g * k)
      products k g n = omega arith

-- a least common multiple
multiple_some : (m n : ℕ) → 0 < m → 0 < n → 0 < multiple_of m n
multiple_some zero n h k = absurd (omega arith)
multiple_some (suc m) n h k = omega (arith, (over_common (suc m) n k).2)

multiple_right : (m n : ℕ) → 0 < n → n ∣ multiple_of m n
multiple_right m n h =
    let turned : n ∣ (n / gcd_of m n) * m = multiple_whole m n (n / gcd_of m n) h (dvd_refl (n / gcd_of m n)) in
    let same : (n / gcd_of m n) * m ≡ m * (n / gcd_of m n) = omega arith in
    subst (λ (k : ℕ). n ∣ k) same turned

multiple_least : (m n k : ℕ) → 0 < n → m ∣ k → n ∣ k → multiple_of m n ∣ k
multiple_least m n k h d f =
    let q = k / m in
    let e : m * q ≡ k = mul-div_cancel' m d in
    let turned : m * q ≡ q * m = omega arith in
    let within : n ∣ q * m = subst (λ (l : ℕ). n ∣ l) (sym e ∙ turned) f in
    subst (λ (l : ℕ). multiple_of m n ∣ l) e (mul-dvd-mul_left (n / gcd_of m n) m (whole_multiple m n q h within))

-- ---- the least common denominator
abs_some : (z : ℤ) → pos 0 <ℤ z → 0 < unsigned_abs z
abs_some z h = omega (arith, ints)

pub lowest_some : (f : ℤ × ℤ) → pos 0 <ℤ f.1 → 0 < lowest_denominator f
lowest_some f h = (over_common (unsigned_abs f.0) (unsigned_abs f.1) (abs_some f.1 h)).2

pub with_some : (n : ℕ) (fs : List (ℤ × ℤ)) → 0 < n → PositiveDenominators fs → 0 < denominator_with n fs
unfolding denominator_with
with_some n [] h p = h
with_some n (f ∷ fs) h p = with_some (multiple_of n (lowest_denominator f)) fs (multiple_some n (lowest_denominator f) h (lowest_some f p.0)) p.1

pub with_divides : (n : ℕ) (fs : List (ℤ × ℤ)) → n ∣ denominator_with n fs
unfolding denominator_with
with_divides n [] = dvd_refl n
with_divides n (f ∷ fs) = dvd_trans n (dvd-mul_right n (lowest_denominator f / gcd_of n (lowest_denominator f)))
    (with_divides (multiple_of n (lowest_denominator f)) fs)

pub with_each : (n : ℕ) (fs : List (ℤ × ℤ)) → PositiveDenominators fs → AllByRecursion (λ (f : ℤ × ℤ). lowest_denominator f ∣ denominator_with n fs) fs
unfolding denominator_with
with_each n [] p = tt
with_each n (f ∷ fs) p =
    let m = multiple_of n (lowest_denominator f) in
    (dvd_trans (lowest_denominator f) (multiple_right n (lowest_denominator f) (lowest_some f p.0)) (with_divides m fs), with_each m fs p.1)

with_least : (n k : ℕ) (fs : List (ℤ × ℤ)) → PositiveDenominators fs → n ∣ k → AllByRecursion (λ (f : ℤ × ℤ). lowest_denominator f ∣ k) fs
    → denominator_with n fs ∣ k
unfolding denominator_with
with_least n k [] p h all = h
with_least n k (f ∷ fs) p h all = with_least (multiple_of n (lowest_denominator f)) k fs p.1
    (multiple_least n (lowest_denominator f) k (lowest_some f p.0) h all.0) all.1

makes_each : (n : ℕ) (fs : List (ℤ × ℤ)) → PositiveDenominators fs → AllByRecursion (λ (f : ℤ × ℤ). lowest_denominator f ∣ n) fs
    → AllByRecursion (MakesWhole n) fs
makes_each n [] p h = tt
makes_each n (f ∷ fs) p h = (multiple_whole (unsigned_abs f.0) (unsigned_abs f.1) n (abs_some f.1 p.0) h.0, makes_each n fs p.1 h.1)

each_lowest : (n : ℕ) (fs : List (ℤ × ℤ)) → PositiveDenominators fs → AllByRecursion (MakesWhole n) fs
    → AllByRecursion (λ (f : ℤ × ℤ). lowest_denominator f ∣ n) fs
each_lowest n [] p h = tt
each_lowest n (f ∷ fs) p h = (whole_multiple (unsigned_abs f.0) (unsigned_abs f.1) n (abs_some f.1 p.0) h.0, each_lowest n fs p.1 h.1)

pub denominators_least : CommonDenominatorsAreLeast
denominators_least fs p =
    (with_some 1 fs (omega arith) p, makes_each (common_denominator fs) fs p (with_each 1 fs p), λ n h. with_least 1 n fs p (one-dvd n) (each_lowest n fs p h))

-- ---- the numbers over it
products_same : (g b k t : ℤ) → (k *ℤ t) *ℤ (g *ℤ b) ≡ (b *ℤ k) *ℤ (g *ℤ t)
products_same g b k t = simp expand (omega (arith, ints))

over_arith : (g b k t top bottom n : ℤ) → g *ℤ t ≡ top → g *ℤ b ≡ bottom → b *ℤ k ≡ n → (k *ℤ t) *ℤ bottom ≡ n *ℤ top
over_arith g b k t top bottom n e f h =
    ap (λ (z : ℤ). (k *ℤ t) *ℤ z) (sym f) ∙ products_same g b k t ∙ ap (λ (z : ℤ). z *ℤ (g *ℤ t)) h ∙ ap (λ (z : ℤ). n *ℤ z) e

pub number_is : (n : ℕ) (f : ℤ × ℤ) → pos 0 <ℤ f.1 → lowest_denominator f ∣ n → number_over n f *ℤ f.1 ≡ pos n *ℤ f.0
number_is n f h d =
    let g = common_divisor f in
    let b = lowest_denominator f in
    let o = over_common (unsigned_abs f.0) (unsigned_abs f.1) (abs_some f.1 h) in
    over_arith (pos g) (pos b) (pos (n / b)) (lowest_numerator f) f.0 f.1 (pos n)
    (div_exact g f.0 (IsGcd-gcd_of (unsigned_abs f.0) (unsigned_abs f.1)).0)
    (ap pos o.0 ∙ pos_abs f.1 h)
    (ap pos (mul-div_cancel' b d))

numbers_are : (n : ℕ) (fs : List (ℤ × ℤ)) → PositiveDenominators fs → AllByRecursion (λ (f : ℤ × ℤ). lowest_denominator f ∣ n) fs
    → Pairwise (IsNumberOver (pos n)) fs (numbers_over n fs)
numbers_are n [] p d = tt
numbers_are n (f ∷ fs) p d = (number_is n f p.0 d.0, numbers_are n fs p.1 d.1)

if_given : (b : Bool) (r values : Scaled) → cond b (Some r) None ≡ Some values → r ≡ values
if_given true r values e = let same : r ≡ values = cc in same
if_given false r values e = absurd (cc)

pub values_fractions : ValuesAreTheFractions
values_fractions fs p values e =
    let n = common_denominator fs in
    let is : Scaled = record { denominator = pos n; numbers = numbers_over n fs } in
    subst (λ (v : Scaled). (v.denominator ≡ pos n) × Pairwise (IsNumberOver v.denominator) fs v.numbers)
    (if_given (fits (pos n) && list_all fits (numbers_over n fs)) is values e)
    (refl, numbers_are n fs p (with_each 1 fs p))

-- ---- whole numbers
whole_one : (f : ℤ × ℤ) (x : ℤ) → IsNumberOver (pos 1) f x → MakesWhole 1 f
whole_one f x h =
    let e : unsigned_abs x * unsigned_abs f.1 ≡ 1 * unsigned_abs f.0 = sym (unsigned_abs-mul x f.1) ∙ ap unsigned_abs h ∙ unsigned_abs-mul (pos 1) f.0 in
    subst (λ (m : ℕ). unsigned_abs f.1 ∣ m) e (dvd-mul_left (unsigned_abs f.1) (unsigned_abs x))

whole_each : (fs : List (ℤ × ℤ)) (xs : List ℤ) → Pairwise (IsNumberOver (pos 1)) fs xs → AllByRecursion (MakesWhole 1) fs
whole_each [] [] h = tt
whole_each [] (x ∷ xs) h = absurd h
whole_each (f ∷ fs) [] h = absurd h
whole_each (f ∷ fs) (x ∷ xs) h = (whole_one f x h.0, whole_each fs xs h.1)

same_numbers : (fs : List (ℤ × ℤ)) (xs : List ℤ) → PositiveDenominators fs → AllByRecursion (λ (f : ℤ × ℤ). lowest_denominator f ∣ 1) fs
    → Pairwise (IsNumberOver (pos 1)) fs xs → numbers_over 1 fs ≡ xs
same_numbers [] [] p d h = refl
same_numbers [] (x ∷ xs) p d h = absurd h
same_numbers (f ∷ fs) [] p d h = absurd h
same_numbers (f ∷ fs) (x ∷ xs) p d h =
    let one : f.1 *ℤ number_over 1 f ≡ f.1 *ℤ x = *ℤ_comm f.1 (number_over 1 f) ∙ number_is 1 f p.0 d.0 ∙ sym h.0 ∙ *ℤ_comm x f.1 in
    ap (λ (z : ℤ). z ∷ numbers_over 1 fs) (cancel_positive f.1 (number_over 1 f) x p.0 one) ∙ ap (λ (zs : List ℤ). x ∷ zs) (same_numbers fs xs p.1 d.1 h.1)

one_fits : fits (pos 1) ≡ true
one_fits = let less : 1 < 2 ^ 127 = omega arith in grind (arith, nat_tests)

pub whole_values : WholeValuesAreTheirNumbers
whole_values fs p xs h =
    let all = whole_each fs xs h in
    let one : common_denominator fs ≡ 1 = eq-one_of_dvd-one ((denominators_least fs p).2 1 all) in
    let same = same_numbers fs xs p (each_lowest 1 fs p all) h in
    ap (λ (n : ℕ). values_over n fs) one
    ∙ ap (λ (zs : List ℤ). cond (fits (pos 1) && list_all fits zs) (Some (scaled_one zs)) None) same
    ∙ ap (λ (b : Bool). cond (b && list_all fits xs) (Some (scaled_one xs)) None) one_fits where
      scaled_one : List ℤ → Scaled
      scaled_one zs = record { denominator = pos 1; numbers = zs }
