-- fractions in lowest terms, and their common denominators
use Rattle.ta_walk.proofs.Common.{◌≡◌, ◌∙◌, ℕ, ◌+◌, ◌/◌, ◌%◌, ◌<◌, ◌≤◌, ℤ, List, [], ◌∷◌, ◌++◌, Bool, true, false, Option, Some, None, arith, ap, refl, sym}
use Rattle.ta_walk.proofs.Common.{append-nil, append_assoc, drop, get_or, length, length-map, InRange, fits, IsGcd, list_all, gcd_of_is, gcd_of}
use Rattle.ta_walk.proofs.Common.{PositiveDenominators, common_denominator, multiple_of, number_over, numbers_over, Fraction}
use Rattle.std.proofs.Common.{cond, ◌&&◌}
use Rattle.std.proofs.lemmas.List.{drop_all, drop_more}
use Rattle.std.proofs.Math.Nat.{one-dvd}
use Rattle.std.proofs.lemmas.Nat.Gcd.{IsGcd-from_mod, dvd_refl, le_of_dvd}
use Rattle.ta_moments.specs.Vertices.{lowest_denominator}
unfoldable use Rattle.ta_moments.specs.Vertices.{denominator_with}
use Rattle.ta_moments.proofs.Fractions.{over_common, with_divides, with_some}
use Rattle.ta_walk.proofs.Fitting.{fits_in, fits_not}
use Rattle.ta_simplex.specs.Vertex.{parts_of}

pub divisor_is : (t b g : ℕ) → IsGcd b (t % b) g → g ≡ gcd_of t b
divisor_is t b g h = gcd_of_is t b g (IsGcd-from_mod t b g h)

pub divisor_some : (t b : ℕ) → 0 < b → 0 < gcd_of t b
divisor_some t b h = (over_common t b h).1

pub quotient_some : (t b : ℕ) → 0 < b → 0 < b / gcd_of t b
quotient_some t b h = (over_common t b h).2

-- with 1 a number has nothing but 1 in common
pub divisor_of_one : (n : ℕ) → gcd_of n 1 ≡ 1
divisor_of_one n = sym (gcd_of_is n 1 1 (one-dvd n, dvd_refl 1, λ d p q. q))

-- so a denominator of 1 is the lowest one, and changes no multiple
pub lowest_of_one : (t b : ℕ) → b ≡ 1 → 1 ≡ b / gcd_of t b
lowest_of_one t b e = rw (e, divisor_of_one t) refl

pub multiple_by_one : (m n : ℕ) → n ≡ 1 → m ≡ multiple_of m n
multiple_by_one m n e = rw (e, divisor_of_one m) (omega arith)

-- each denominator is positive
pub all_positive : (fs : List Fraction) → PositiveDenominators (parts_of fs)
all_positive [] = tt
all_positive (f ∷ fs) = (f.positive, all_positive fs)

-- the least common denominator is no less than that of the first fractions
pub no_less : (n : ℕ) (fs : List Fraction) → 0 < n → n ≤ denominator_with n (parts_of fs)
no_less n fs h = le_of_dvd (with_some n (parts_of fs) h (all_positive fs)) (with_divides n (parts_of fs))

-- one more fraction
pub next_some : (f : Fraction) (d : ℕ) → 0 < d → 0 < multiple_of d (lowest_denominator (f.top, f.bottom))
unfolding denominator_with
next_some f d h = with_some d ((f.top, f.bottom) ∷ []) h (f.positive, tt)

pub next_parts : (fs : List Fraction) (i : ℕ) (f : Fraction) → i < length fs → f ≡ get_or fs i f → drop i fs ≡ f ∷ drop (i + 1) fs
next_parts fs i f less is = drop_more fs i f less ∙ ap (λ (g : Fraction). g ∷ drop (i + 1) fs) (sym is)

pub next_denominator : (fs : List Fraction) (i : ℕ) (f : Fraction) (d : ℕ) → i < length fs → f ≡ get_or fs i f
    → denominator_with d (parts_of (drop i fs)) ≡ denominator_with (multiple_of d (lowest_denominator (f.top, f.bottom))) (parts_of (drop (i + 1) fs))
unfolding denominator_with
next_denominator fs i f d less is = ap (λ (gs : List Fraction). denominator_with d (parts_of gs)) (next_parts fs i f less is)

pub left_after : (fs : List Fraction) (i d : ℕ) → length fs ≤ i → denominator_with d (parts_of (drop i fs)) ≡ d
unfolding denominator_with
left_after fs i d h = ap (λ (gs : List Fraction). denominator_with d (parts_of gs)) (drop_all i fs h)

-- numbers so far, and those that are left
abbrev pub all_or_none : List ℤ → List ℤ → Option (List ℤ)
all_or_none before rest = cond (list_all fits rest) (Some (before ++ rest)) None

pub one_out : (before rest : List ℤ) (z : ℤ) → (InRange z → ⊥) → all_or_none before (z ∷ rest) ≡ None
one_out before rest z h = ap (λ (b : Bool). cond (b && list_all fits rest) (Some (before ++ z ∷ rest)) None) (fits_not z h)

pub one_in : (before rest : List ℤ) (z : ℤ) → InRange z → all_or_none before (z ∷ rest) ≡ all_or_none (before ++ z ∷ []) rest
one_in before rest z h =
    ap (λ (b : Bool). cond (b && list_all fits rest) (Some (before ++ z ∷ rest)) None) (fits_in z h)
    ∙ ap (λ (zs : List ℤ). cond (list_all fits rest) (Some zs) None) (sym (append_assoc before (z ∷ []) rest))

pub next_numbers : (n : ℕ) (fs : List Fraction) (i : ℕ) (f : Fraction) (before : List ℤ) → i < length fs → f ≡ get_or fs i f
    → all_or_none before (numbers_over n (parts_of (drop i fs))) ≡ all_or_none before
    (number_over n (f.top, f.bottom) ∷ numbers_over n (parts_of (drop (i + 1) fs)))
next_numbers n fs i f before less is = ap (λ (gs : List Fraction). all_or_none before (numbers_over n (parts_of gs))) (next_parts fs i f less is)

-- no number is left
pub last_numbers : (n : ℕ) (fs : List Fraction) (i : ℕ) (before : List ℤ) → length fs ≤ i
    → all_or_none before (numbers_over n (parts_of (drop i fs))) ≡ Some before
last_numbers n fs i before h = ap (λ (gs : List Fraction). all_or_none before (numbers_over n (parts_of gs))) (drop_all i fs h) ∙ ap Some (append-nil before)

-- numbers that are given are as many as the fractions
pub given_length : (b : Bool) (n : ℕ) (fs : List Fraction) (numbers : List ℤ) → Some numbers ≡ cond b (Some (numbers_over n (parts_of fs))) None
    → length numbers ≡ length fs
given_length true n fs numbers e =
    let same : numbers ≡ numbers_over n (parts_of fs) = cc in
    ap (λ (zs : List ℤ). length zs) same ∙ length-map (parts_of fs) (number_over n) ∙ length-map fs (λ (f : Fraction). (f.top, f.bottom))
given_length false n fs numbers e = absurd (cc)

pub denominator_some : (fs : List Fraction) → 0 < common_denominator (parts_of fs)
denominator_some fs = with_some 1 (parts_of fs) (omega arith) (all_positive fs)
