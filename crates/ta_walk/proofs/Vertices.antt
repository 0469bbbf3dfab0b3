-- whole fractions, and the whole numbers below the others
use Rattle.ta_walk.proofs.Common.{◌≡◌, ℕ, ◌+◌, ◌<◌, List, [], ◌∷◌, ◌++◌, length, get_or, slice_get, take, arith, ℤ, pos, ◌≤ℤ◌, ◌<ℤ◌, ◌*ℤ◌, ◌+ℤ◌, ap, refl, sym}
use Rattle.ta_walk.proofs.Common.{subst, ◌∙◌, int_div_euclid, int_rem_euclid, ints, by_lt_z, take_more, euclid, floor_high, floor_low, floor_once, Fraction}
use Rattle.ta_walk.proofs.Common.{AreNumbers, IsWholeNumber, IsWhole, IsAbove, SplitsAt, IsSomeAnd}
use borrow.Author.Count.{below_more}
use Rattle.ta_base.proofs.Lists.{has_read, of_read}

-- without a remainder a fraction is whole
pub rest_whole : (f : Fraction) (rest : ℤ) → rest ≡ int_rem_euclid f.top f.bottom → rest ≡ pos 0 → IsWhole f
rest_whole f rest is none =
    let positive : pos 0 <ℤ f.bottom = f.positive in
    let e = euclid f.top f.bottom positive in
    (int_div_euclid f.top f.bottom, omega (arith, ints, e))

-- and with one it lies above its floor
pub rest_above : (f : Fraction) (rest floor : ℤ) → rest ≡ int_rem_euclid f.top f.bottom → (rest ≡ pos 0 → ⊥) → (floor *ℤ f.bottom) ≤ℤ f.top
    → f.top <ℤ ((floor +ℤ pos 1) *ℤ f.bottom) → IsAbove floor f
rest_above f rest floor is some low high =
    let positive : pos 0 <ℤ f.bottom = f.positive in
    let quotient = int_div_euclid f.top f.bottom in
    let e = euclid f.top f.bottom positive in
    let none : f.top ≡ (floor *ℤ f.bottom) → ⊥ = λ whole.
    let same : quotient ≡ floor = floor_once f.top f.bottom quotient floor positive (floor_low f.top f.bottom quotient positive refl)
    (floor_high f.top f.bottom quotient positive refl) whole in
    let product : (quotient *ℤ f.bottom) ≡ (floor *ℤ f.bottom) = ap (λ q. q *ℤ f.bottom) same in
    some (omega (arith, ints, e))
    in
    record { above = by_lt_z (floor *ℤ f.bottom) f.top (λ less. less) (λ most. absurd (none (omega (arith, ints)))); below = high }

-- the first value that isn't whole
pub splits : (fs : List Fraction) (i : ℕ) (f : Fraction) (floor : ℤ) → ((k : ℕ) → k < i → IsSomeAnd (slice_get fs k) IsWhole) → i < length fs
    → f ≡ get_or fs i f → IsAbove floor f → SplitsAt fs i floor
splits fs i f floor before below is above = record { before = before; here = has_read fs i f (IsAbove floor) below is above }

-- one more whole value
pub whole_more : (fs : List Fraction) (i : ℕ) (f : Fraction) → ((k : ℕ) → k < i → IsSomeAnd (slice_get fs k) IsWhole) → i < length fs → f ≡ get_or fs i f
    → IsWhole f → (k : ℕ) → k < i + 1 → IsSomeAnd (slice_get fs k) IsWhole
whole_more fs i f before below is whole = below_more (λ k. IsSomeAnd (slice_get fs k) IsWhole) i before (has_read fs i f IsWhole below is whole)

-- one more number
appended : (fs : List Fraction) (ks : List ℤ) (f : Fraction) (k : ℤ) → AreNumbers fs ks → IsWholeNumber k f → AreNumbers (fs ++ f ∷ []) (ks ++ k ∷ [])
appended [] [] f k are is = (is, tt)
appended [] (j ∷ ks) f k are is = absurd are
appended (e ∷ fs) [] f k are is = absurd are
appended (e ∷ fs) (j ∷ ks) f k are is = (are.0, appended fs ks f k are.1 is)

-- the floor of one more whole value
pub numbers_more : (fs : List Fraction) (ks : List ℤ) (i : ℕ) (f : Fraction) (floor : ℤ) → AreNumbers (take i fs) ks → i < length fs → f ≡ get_or fs i f
    → IsSomeAnd (slice_get fs i) IsWhole → (floor *ℤ f.bottom) ≤ℤ f.top → f.top <ℤ ((floor +ℤ pos 1) *ℤ f.bottom)
    → AreNumbers (take (i + 1) fs) (ks ++ floor ∷ [])
numbers_more fs ks i f floor are below is read low high =
    let whole : IsWhole f = of_read fs i f IsWhole below is read in
    let same : floor ≡ whole.0 = floor_once f.top f.bottom floor whole.0 f.positive low high whole.1 in
    let number : IsWholeNumber floor f = subst (λ k. IsWholeNumber k f) (sym same) whole.1 in
    let more : take (i + 1) fs ≡ take i fs ++ f ∷ [] = take_more fs i f below ∙ ap (λ g. take i fs ++ g ∷ []) (sym is) in
    subst (λ gs. AreNumbers gs (ks ++ floor ∷ [])) (sym more) (appended (take i fs) ks f floor are number)
