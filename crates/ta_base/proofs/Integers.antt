-- whole numbers: signs, sizes, products, and a ruleset that writes polynomials as sums of sorted products
use Rattle.ta_base.proofs.Common.{ℕ, ◌<◌, ◌*◌, ◌≡◌, sym, ◌∙◌, ap, ◌/◌, ℤ, pos, ◌*ℤ◌, arith, unsigned_abs, int_div, negsuc, suc, neg_ℤ, ◌≤ℤ◌, ◌<ℤ◌, ◌+ℤ◌}
use Rattle.ta_base.proofs.Common.{div-add-mod', ◌-ℤ◌, ◌≢◌, refl, cond, eqb, FitsSigned, w64, ◌≤◌, ◌^◌, true, false, ◌⊎◌, inl, inr, int_lt, Bool, ◌+◌, to_z}
use Rattle.ta_base.proofs.Common.{of_z, to_z-of_z, subst, mul-le-mul, true≢false, if◌then◌else◌, mul-le-mul_left, div-le_self, mul-le-mul_right, length}
use Rattle.ta_base.proofs.Common.{replicate, get_or, mul-div_cancel', mul-dvd-mul_left, dvd-mul_right, ◌∣◌, int_div_euclid, IsGcd, int_min, w128}
use Rattle.ta_base.proofs.Common.{int_rem_euclid, mod_below, ints, fits_signed_from_abs, unsigned_abs-mul, by_lt_z, *ℤ_comm, *ℤ-zero, ◌-◌, nat_tests}
use Rattle.ta_base.proofs.Common.{cases_Bool, false≢true, cases_eq, props, signed_decimal, length-decimal-le_wide, cases_lt, get_or-replicate, get_or_past}
use Rattle.ta_base.proofs.Common.{length-replicate, w32, +ℤ_idl, +ℤ_idr, +ℤ_invr, mul-pos, lt_of_mul-lt-mul_left, lt_of_mul-lt-mul_right, cond_both}
use borrow.Author.Differences.{product_is, up, down, same_in, sum_is_lem}
use Rattle.ta_base.proofs.Naturals.{cond_apart, cond_same, small_is_wide}
use mir.Val.{SFits, hbits}
use mir.Syntax.{w16, Width}

-- a number is its quotient's product and its remainder
pub euclid : (a b : ℤ) → pos 0 <ℤ b → a ≡ ((int_div_euclid a b *ℤ b) +ℤ int_rem_euclid a b)
euclid (pos a) (pos b) h = omega (arith, ints, div-add-mod' a b)
euclid (negsuc a) (pos b) h = omega (arith, ints, div-add-mod' a b, mod_below a b (omega (arith, ints, h)), product_is (negsuc (a / b)) (pos b))
euclid a (negsuc b) h = absurd (omega (arith, ints, h))

-- the remainder is natural and below the divisor
rest_within : (a b : ℤ) → pos 0 <ℤ b → (pos 0 ≤ℤ int_rem_euclid a b) × (int_rem_euclid a b <ℤ b)
rest_within (pos a) b h = (omega (arith, ints), omega (arith, ints, mod_below a (unsigned_abs b) (omega (arith, ints))))
rest_within (negsuc a) b h = (omega (arith, ints), omega (arith, ints))

pub floor_low : (a b q : ℤ) → pos 0 <ℤ b → q ≡ int_div_euclid a b → (q *ℤ b) ≤ℤ a
floor_low a b q h e = rw e (omega (arith, ints, euclid a b h, rest_within a b h))

pub distributes : (a b c : ℤ) → (a *ℤ (b +ℤ c)) ≡ ((a *ℤ b) +ℤ (a *ℤ c))
distributes a b c = omega (arith, ints, ap (λ (n : ℕ). up a * n) (sum_is_lem b c), ap (λ (n : ℕ). down a * n) (sum_is_lem b c))

pub distributes_right : (a b c : ℤ) → ((a +ℤ b) *ℤ c) ≡ ((a *ℤ c) +ℤ (b *ℤ c))
distributes_right a b c = rw (*ℤ_comm (a +ℤ b) c, distributes c a b, *ℤ_comm c a, *ℤ_comm c b) refl

pub floor_high : (a b q : ℤ) → pos 0 <ℤ b → q ≡ int_div_euclid a b → a <ℤ ((q +ℤ pos 1) *ℤ b)
floor_high a b q h e = rw e (omega (arith, ints, euclid a b h, rest_within a b h, distributes_right (int_div_euclid a b) (pos 1) b))

-- from natural numbers to whole ones
pub IsGcd-whole : (a b : ℤ) (x y g : ℕ) (r : ℤ) → x ≡ unsigned_abs a → y ≡ unsigned_abs b → r ≡ pos g → IsGcd x y g
    → IsGcd (unsigned_abs a) (unsigned_abs b) (unsigned_abs r)
IsGcd-whole a b x y g r d e f h = rw (← d, ← e, f) h

pub mul-neg : (a b : ℤ) → (a *ℤ neg_ℤ b) ≡ neg_ℤ (a *ℤ b)
mul-neg a b = omega (arith, ints, distributes a b (neg_ℤ b), ap (λ z. a *ℤ z) (+ℤ_invr b), *ℤ-zero a)

-- an exact quotient
pub div_exact : (g : ℕ) (z : ℤ) → g ∣ unsigned_abs z → (pos g *ℤ int_div z (pos g)) ≡ z
div_exact g (pos a) d = ap pos (mul-div_cancel' g d)
div_exact g (negsuc a) d = mul-neg (pos g) (pos (suc a / g)) ∙ ap (λ (n : ℕ). neg_ℤ (pos n)) (mul-div_cancel' g d)

pub neg-mul : (a b : ℤ) → (neg_ℤ a *ℤ b) ≡ neg_ℤ (a *ℤ b)
neg-mul a b = *ℤ_comm (neg_ℤ a) b ∙ mul-neg b a ∙ ap neg_ℤ (*ℤ_comm b a)

pub minus_times : (a b c : ℤ) → ((a -ℤ b) *ℤ c) ≡ ((a *ℤ c) -ℤ (b *ℤ c))
minus_times a b c = distributes_right a (neg_ℤ b) c ∙ ap (λ z. (a *ℤ c) +ℤ z) (neg-mul b c)

up_times : (a b : ℤ) → up (a *ℤ b) ≡ up a * up b + down a * down b
up_times a b = (product_is a b).0

down_times : (a b : ℤ) → down (a *ℤ b) ≡ up a * down b + down a * up b
down_times a b = (product_is a b).1

pub times_assoc : (a b c : ℤ) → ((a *ℤ b) *ℤ c) ≡ (a *ℤ (b *ℤ c))
times_assoc a b c = same_in ((a *ℤ b) *ℤ c) (a *ℤ (b *ℤ c)) (simp (up_times, down_times) (omega arith))

pub mul_left_comm : (a b c : ℤ) → (a *ℤ (b *ℤ c)) ≡ (b *ℤ (a *ℤ c))
mul_left_comm a b c = sym (times_assoc a b c) ∙ ap (λ z. z *ℤ c) (*ℤ_comm a b) ∙ times_assoc b a c

-- an equation of polynomials: `simp expand` writes both sides as sums of sorted products, and `omega (arith, ints)` compares the sums
pub ruleset expand = (distributes, distributes_right, times_assoc, mul-neg, neg-mul, *ℤ_comm, mul_left_comm)

pub times_not_zero : (a b : ℤ) → a ≢ pos 0 → b ≢ pos 0 → (a *ℤ b) ≢ pos 0
times_not_zero a b p q e =
    let some : 0 < unsigned_abs a * unsigned_abs b = mul-pos (omega (arith, ints)) (omega (arith, ints)) in
    omega (arith, unsigned_abs-mul a b, ap unsigned_abs e)

pub zero_or_not : (z : ℤ) → (z ≡ pos 0) ⊎ (z ≢ pos 0)
zero_or_not z = elim (cases_eq (unsigned_abs z) 0) [ inl e ↦ inl (omega (arith, ints)) | inr ne ↦ inr (λ e. ne (ap unsigned_abs e)) ]

pub cancel_positive : (d x y : ℤ) → pos 0 <ℤ d → d *ℤ x ≡ d *ℤ y → x ≡ y
cancel_positive d x y h e = elim (zero_or_not (x -ℤ y)) [
  | inl same ↦ omega (arith, ints)
  | inr apart ↦ absurd (times_not_zero d (x -ℤ y) (λ z. omega (arith, ints)) apart (omega (arith, ints, distributes d x (neg_ℤ y), mul-neg d y)))
]

-- a positive factor is taken off
pub mul_cancel : (g : ℕ) (x y : ℤ) → 0 < g → (pos g *ℤ x) ≡ (pos g *ℤ y) → x ≡ y
mul_cancel g x y h e = cancel_positive (pos g) x y (omega (arith, ints)) e

pub add_cond : (a b x : ℕ) (p q : ℤ) → a ≡ b → cond (eqb a x) (p +ℤ q) (pos 0) ≡ (cond (eqb a x) p (pos 0) +ℤ cond (eqb b x) q (pos 0))
add_cond a b x p q e = grind (arith, ints, nat_tests)

pub mul-ge-zero : (a b : ℤ) → pos 0 ≤ℤ a → pos 0 ≤ℤ b → pos 0 ≤ℤ (a *ℤ b)
mul-ge-zero (pos m) (pos n) h k = omega (arith, ints)
mul-ge-zero (pos m) (negsuc n) h k = absurd (omega (arith, ints, k))
mul-ge-zero (negsuc m) b h k = absurd (omega (arith, ints, h))

pub product_positive : (a b : ℤ) → pos 0 <ℤ a → pos 0 <ℤ b → pos 0 <ℤ (a *ℤ b)
product_positive a b h k =
    let apart = times_not_zero a b (λ e. omega (arith, ints)) (λ e. omega (arith, ints)) in
    omega (arith, ints, mul-ge-zero a b (omega (arith, ints)) (omega (arith, ints)))

pub mul-lt-zero : (m : ℕ) (b : ℤ) → 0 < m → b <ℤ pos 0 → (pos m *ℤ b) <ℤ pos 0
mul-lt-zero m b h k = omega (arith, ints, mul-neg (pos m) b, product_positive (pos m) (neg_ℤ b) (omega (arith, ints)) (omega (arith, ints)))

pub ge-zero_of_mul : (d v : ℤ) → pos 0 <ℤ d → pos 0 ≤ℤ (d *ℤ v) → pos 0 ≤ℤ v
ge-zero_of_mul d v h k = by_lt_z v (pos 0) (λ l. absurd (omega (arith, ints, mul-neg d v, product_positive d (neg_ℤ v) h (omega (arith, ints))))) (λ m. m)

pub lt-zero_of_mul : (d v : ℤ) → pos 0 <ℤ d → (d *ℤ v) <ℤ pos 0 → v <ℤ pos 0
lt-zero_of_mul d v h k = by_lt_z v (pos 0) (λ l. l) (λ m. absurd (omega (arith, ints, mul-ge-zero d v (omega (arith, ints)) m)))

pub mul-le-zero : (c v : ℤ) → c ≤ℤ pos 0 → pos 0 ≤ℤ v → (c *ℤ v) ≤ℤ pos 0
mul-le-zero c v h k = omega (arith, ints, neg-mul c v, mul-ge-zero (neg_ℤ c) v (omega (arith, ints)) k)

pub mul-le-zero_turned : (c v : ℤ) → pos 0 ≤ℤ c → v ≤ℤ pos 0 → (c *ℤ v) ≤ℤ pos 0
mul-le-zero_turned c v h k = omega (arith, ints, mul-neg c v, mul-ge-zero c (neg_ℤ v) h (omega (arith, ints)))

pub fits_64_abs : (a : ℤ) → FitsSigned w64 a → unsigned_abs a ≤ 2 ^ 63
fits_64_abs a f = omega (arith, ints, f)

pub abs_natural : (z : ℤ) → pos 0 ≤ℤ z → pos (unsigned_abs z) ≡ z
abs_natural z h = omega (arith, ints)

pub if_zero : (a x : ℕ) (z : ℤ) → z ≡ pos 0 → cond (eqb a x) z (pos 0) ≡ pos 0
if_zero a x z e = grind (arith, ints, nat_tests)

pub times_if : (factor z product : ℤ) (a x : ℕ) → product ≡ (factor *ℤ z) → cond (eqb a x) product (pos 0) ≡ (factor *ℤ cond (eqb a x) z (pos 0))
times_if factor z product a x is = grind (arith, ints, nat_tests, *ℤ-zero)

-- a whole number as a natural one
abbrev pub natural : ℤ → ℕ
natural (pos n) = n
natural (negsuc n) = 0

pub pos_natural : (z : ℤ) → pos 0 ≤ℤ z → pos (natural z) ≡ z
pos_natural (pos n) h = refl
pos_natural (negsuc n) h = absurd (omega (arith, ints))

pub not_held : (z : ℤ) → (pos 0 ≤ℤ z → ⊥) → z <ℤ pos 0
not_held z h = by_lt_z z (pos 0) (λ l. l) (λ m. absurd (h m))

pub turned_negative : (z : ℤ) → ¬ (pos 0 ≤ℤ z) → pos 0 ≤ℤ (neg_ℤ z -ℤ pos 1)
turned_negative z h = omega (arith, ints, not_held z h)

pub one_times : (z : ℤ) → (pos 1 *ℤ z) ≡ z
one_times z = omega (arith, ints)

pub less_times : (c x y : ℤ) → c ≤ℤ pos 0 → x ≤ℤ y → (c *ℤ y) ≤ℤ (c *ℤ x)
less_times c x y h le = omega (arith, ints, distributes c y (neg_ℤ x), mul-neg c x, mul-le-zero c (y -ℤ x) h (omega (arith, ints)))

pub times_le : (c x y : ℤ) → pos 0 ≤ℤ c → x ≤ℤ y → (c *ℤ x) ≤ℤ (c *ℤ y)
times_le c x y h le = omega (arith, ints, distributes c y (neg_ℤ x), mul-neg c x, mul-ge-zero c (y -ℤ x) h (omega (arith, ints)))

pub zero_or_more : (z : ℤ) → pos 0 ≤ℤ z → (z ≡ pos 0) ⊎ (pos 1 ≤ℤ z)
zero_or_more z h = by_lt_z (pos 0) z (λ l. inr (omega (arith, ints))) (λ m. inl (omega (arith, ints)))

pub above_zero : (z : ℤ) → int_lt (pos 0) z ≡ true → pos 1 ≤ℤ z
above_zero z h = omega (arith, ints)

pub not_above_zero : (z : ℤ) → int_lt (pos 0) z ≡ false → z ≤ℤ pos 0
not_above_zero z h = omega (arith, ints)

pub min_cases : (a b : ℤ) → ((int_min a b ≡ a) × (a ≤ℤ b)) ⊎ ((int_min a b ≡ b) × (b ≤ℤ a))
min_cases a b = elim (cases_Bool (int_lt b a)) [ inl e ↦ inr (rw e refl, omega (arith, ints)) | inr e ↦ inl (rw e refl, omega (arith, ints)) ]

pub abs_less : (x y : ℤ) → pos 0 ≤ℤ x → x ≤ℤ y → unsigned_abs x ≤ unsigned_abs y
abs_less x y low h = omega (arith, ints)

pub abs_less_than : (x y : ℤ) → pos 0 ≤ℤ x → (x +ℤ pos 1) ≤ℤ y → unsigned_abs x < unsigned_abs y
abs_less_than x y low h = omega (arith, ints)

-- ---- a comparison
pub less_alike : (a b c d z : ℤ) → a ≡ c → b ≡ d → ((a -ℤ b) -ℤ z) ≡ ((c -ℤ d) -ℤ z)
less_alike a b c d z e g = omega (arith, ints, e, g)

pub minus_alike : (a b c d : ℤ) → a ≡ c → b ≡ d → (a -ℤ b) ≡ (c -ℤ d)
minus_alike a b c d e g = omega (arith, ints, e, g)

-- ---- terms
pub cond_small : (b : Bool) (z c : ℤ) → (b ≡ true → c ≡ pos 0) → unsigned_abs z ≤ 1000000000 → unsigned_abs c ≤ 1000000000
    → unsigned_abs (cond b z (pos 0) +ℤ c) ≤ 1000000000
cond_small true z c e h k = let none : c ≡ pos 0 = e refl in omega (arith, ints, none)
cond_small false z c e h k = omega (arith, ints)

pub add_moved : (f g t l a : ℤ) → (f +ℤ (t +ℤ l)) ≡ a → g ≡ (f +ℤ t) → (g +ℤ l) ≡ a
add_moved f g t l a e h = omega (arith, ints, e, h)

pub abs_sum : (a b : ℤ) (m n : ℕ) → unsigned_abs a ≤ m → unsigned_abs b ≤ n → unsigned_abs (a +ℤ b) ≤ m + n
abs_sum a b m n h g = omega (arith, ints)

pub more_within : (count : ℕ) (x y : ℤ) → unsigned_abs x ≤ 1000000000 * count → unsigned_abs y ≤ 1000000000 → unsigned_abs (x +ℤ y) ≤ 1000000000 * (count + 1)
more_within count x y h k = omega (arith, ints)

-- -1 times a number
pub minus_one_times : (x : ℤ) → (negsuc 0 *ℤ x) ≡ (pos 0 -ℤ x)
minus_one_times x = omega (arith, ints)

pub less_small : (c : ℤ) (n : ℕ) → unsigned_abs c ≤ n → unsigned_abs (pos 0 -ℤ c) ≤ n
less_small c n h = omega (arith, ints)

pub less_one : (f g l k s n : ℤ) → f ≡ (g +ℤ n) → n ≡ (negsuc 0 *ℤ s) → s ≡ (l +ℤ k) → k ≡ pos 0 → f ≡ (g -ℤ l)
less_one f g l k s n a b c d = omega (arith, ints, a, b ∙ minus_one_times s, c, d)

pub abs_below : (n : ℕ) (x y : ℤ) → pos 0 ≤ℤ x → x ≤ℤ y → unsigned_abs y < n → unsigned_abs x < n
abs_below n x y h le b = omega (arith, ints)

pub suc_times : (k : ℕ) (x : ℤ) → (pos (suc k) *ℤ x) ≡ (x +ℤ (pos k *ℤ x))
suc_times k x = omega (arith, ints)

pub times_natural : (k : ℕ) (x : ℤ) → pos 0 ≤ℤ x → pos 0 ≤ℤ (pos k *ℤ x)
times_natural k x h = mul-ge-zero (pos k) x (omega (arith, ints)) h

pub by_one : (z : ℤ) → (z *ℤ pos 1) ≡ z
by_one z = omega (arith, ints)

pub times_minus_one : (k : ℤ) → (k *ℤ negsuc 0) ≡ (pos 0 -ℤ k)
times_minus_one k = mul-neg k (pos 1) ∙ omega (arith, ints, by_one k)

pub less_fits : (z : ℤ) → pos 1 ≤ℤ z → FitsSigned w128 z → FitsSigned w128 (z -ℤ pos 1)
less_fits z some fits = omega (arith, ints, fits)

pub less_none : (z : ℤ) → (z -ℤ pos 0) ≡ z
less_none z = +ℤ_idr z

pub one_term_value : (z : ℤ) → (((pos 1 *ℤ z) +ℤ pos 0) -ℤ pos 0) ≡ z
one_term_value z = omega (arith, ints)

pub abs_minus : (a b : ℤ) (m n : ℕ) → unsigned_abs a ≤ m → unsigned_abs b ≤ n → unsigned_abs (a -ℤ b) ≤ m + n
abs_minus a b m n h g = omega (arith, ints)

pub fits_sum : (a b : ℤ) (m n : ℕ) → unsigned_abs a ≤ m → unsigned_abs b ≤ n → m + n < 2 ^ 127 → FitsSigned w128 (a +ℤ b)
fits_sum a b m n h g k = fits_signed_from_abs w128 (a +ℤ b) (omega (arith, abs_sum a b m n h g))

pub abs_product : (a b : ℤ) → unsigned_abs a ≤ 1000000000 → unsigned_abs b ≤ 17000000000 → unsigned_abs (a *ℤ b) ≤ 17000000000000000000
abs_product a b h g = subst (λ n. n ≤ 17000000000000000000) (sym (unsigned_abs-mul a b)) (mul-le-mul h g)

pub to_z_range : (z : ℤ) → unsigned_abs z < 2 ^ 127 → to_z w128 (of_z w128 z) ≡ z
to_z_range z h = to_z-of_z (fits_signed_from_abs w128 z h)

pub to_z_abs : (z : ℤ) (m : ℕ) → unsigned_abs z ≤ m → m < 2 ^ 127 → to_z w128 (of_z w128 z) ≡ z
to_z_abs z m h g = to_z_range z (omega arith)

pub not_none : (z : ℤ) → (of_z w128 z ≡ 0 → ⊥) → z ≡ pos 0 → ⊥
not_none z h e = h (ap (of_z w128) e)

pub is_none : (z : ℤ) → unsigned_abs z < 2 ^ 127 → of_z w128 z ≡ 0 → z ≡ pos 0
is_none z b e = sym (to_z_range z b) ∙ ap (to_z w128) e

-- whether a number is negative
abbrev pub is_negative : ℤ → Bool
is_negative (pos n) = false
is_negative (negsuc n) = true

pub negative_true : (z : ℤ) → is_negative z ≡ true → z <ℤ pos 0
negative_true (pos n) e = absurd (false≢true e)
negative_true (negsuc n) e = omega (arith, ints)

pub negative_false : (z : ℤ) → is_negative z ≡ false → pos 0 ≤ℤ z
negative_false (pos n) e = omega (arith, ints)
negative_false (negsuc n) e = absurd (true≢false e)

-- ---- numbers
pub choose_small : (b : Bool) (x y : ℤ) (n : ℕ) → unsigned_abs x ≤ n → unsigned_abs y ≤ n → unsigned_abs (if b then x else y) ≤ n
choose_small b x y n h g = cond_both b x y (λ z. unsigned_abs z ≤ n) (λ _. h) (λ _. g)

pub product_le : (p x : ℤ) (b : ℕ) → unsigned_abs x ≤ b → unsigned_abs (p *ℤ x) ≤ unsigned_abs p * b
product_le p x b h = rw (unsigned_abs-mul p x) (mul-le-mul_left (unsigned_abs p) h)

pub unsigned_abs-neg : (z : ℤ) → unsigned_abs (neg_ℤ z) ≡ unsigned_abs z
unsigned_abs-neg z = omega (arith, ints)

pub quotient_le : (z : ℤ) (g : ℕ) → unsigned_abs (int_div z (pos g)) ≤ unsigned_abs z
quotient_le (pos a) g = div-le_self a g
quotient_le (negsuc a) g = rw (unsigned_abs-neg (pos (suc a / g))) (div-le_self (suc a) g)

-- divisors of positive numbers of 32 bits
pub abs_positive : (z : ℤ) → pos 0 <ℤ z → 0 < unsigned_abs z
abs_positive z h = omega (arith, ints)

pub divided_arith : (g d v s b t d' b' t' : ℤ) → d *ℤ v ≡ s *ℤ b +ℤ t → g *ℤ d' ≡ d → g *ℤ b' ≡ b → g *ℤ t' ≡ t →
    g *ℤ (d' *ℤ v) ≡ g *ℤ (s *ℤ b' +ℤ t')
divided_arith g d v s b t d' b' t' h e f k =
    let x = simp expand at (ap (λ (z : ℤ). z *ℤ v) e) in
    let y = simp expand at (ap (λ (z : ℤ). s *ℤ z) f) in
    simp expand (omega (arith, ints, h, x, y, k))

pub leaving_arith : (d vl m c s b sum picked scaled w wl we : ℤ) →
    d *ℤ vl ≡ (m *ℤ (c *ℤ s)) *ℤ b +ℤ sum → sum ≡ m *ℤ picked →
    picked +ℤ c *ℤ (c *ℤ we) ≡ scaled +ℤ c *ℤ (d *ℤ wl -ℤ s *ℤ b -ℤ w +ℤ c *ℤ we) → scaled ≡ c *ℤ w →
    d *ℤ vl ≡ d *ℤ ((m *ℤ c) *ℤ wl)
leaving_arith d vl m c s b sum picked scaled w wl we h1 h2 h3 h4 =
    let x = simp expand at h1 in
    let y = simp expand at (ap (λ (z : ℤ). m *ℤ z) h3) in
    let z = ap (λ (z : ℤ). m *ℤ z) h4 in
    simp expand (omega (arith, ints, x, y, z, h2))

pub pos_out : (z : ℤ) → pos 0 <ℤ z → (k : ℕ) × (z ≡ pos (suc k))
pos_out z h = (unsigned_abs z - 1, omega (arith, ints))

-- a positive number's factor is positive where the other is natural
pub factor_positive : (g : ℕ) (z w : ℤ) → pos g *ℤ z ≡ w → pos 0 <ℤ w → (0 < g) × (pos 0 <ℤ z)
factor_positive g z w e h =
    let p = product_is (pos g) z in
    (lt_of_mul-lt-mul_right (up z) (omega (arith, ints)), omega (arith, ints, lt_of_mul-lt-mul_left g {m = down z} {n = up z} (omega (arith, ints))))

pub factors_agree : (c a p q : ℤ) (g : ℕ) → 0 < g → pos g *ℤ p ≡ c → pos g *ℤ q ≡ a → p *ℤ a ≡ q *ℤ c
factors_agree c a p q g some e f =
    mul_cancel g (p *ℤ a) (q *ℤ c) some
    (let x = simp expand at (ap (λ (z : ℤ). z *ℤ a) e) in let y = simp expand at (ap (λ (z : ℤ). z *ℤ c) f) in simp expand (omega (arith, ints, x, y)))

-- what the row says, as linear arithmetic
pub turned_arith : (d l q b s c e n : ℤ) → d *ℤ l ≡ q *ℤ b +ℤ s → n +ℤ neg_ℤ c *ℤ e ≡ neg_ℤ s +ℤ d *ℤ l → c *ℤ e ≡ q *ℤ neg_ℤ b +ℤ n
turned_arith d l q b s c e n h1 h2 = let k = simp expand at h2 in simp expand (omega (arith, ints, h1, k))

pub merged_arith : (d l s b t c e k v m u a n p q : ℤ) → d *ℤ l ≡ s *ℤ b +ℤ t → k *ℤ v ≡ s *ℤ m +ℤ u → p *ℤ a ≡ q *ℤ c →
    n +ℤ (p *ℤ a -ℤ q *ℤ c) *ℤ e ≡ (p *ℤ u -ℤ q *ℤ t) +ℤ (q *ℤ d) *ℤ l →
    (p *ℤ k) *ℤ v ≡ s *ℤ (p *ℤ m -ℤ q *ℤ b) +ℤ n
merged_arith d l s b t c e k v m u a n p q h1 h2 h3 h4 =
    let x = simp expand at (ap (λ (z : ℤ). q *ℤ z) h1) in
    let y = simp expand at (ap (λ (z : ℤ). p *ℤ z) h2) in
    let z = simp expand at h4 in
    let w = simp expand at (ap (λ (z : ℤ). z *ℤ e) h3) in
    simp expand (omega (arith, ints, x, y, z, w))

-- a divisor of the quotient, times the divisor
pub dvd_times : (g k : ℕ) (z : ℤ) → g ∣ unsigned_abs z → k ∣ unsigned_abs (int_div z (pos g)) → g * k ∣ unsigned_abs z
dvd_times g k z h d =
    let e : g * unsigned_abs (int_div z (pos g)) ≡ unsigned_abs z = sym (unsigned_abs-mul (pos g) (int_div z (pos g))) ∙ ap unsigned_abs (div_exact g z h) in
    subst (λ (m : ℕ). g * k ∣ m) e (mul-dvd-mul_left k g d)

pub div-one : (z : ℤ) → int_div z (pos 1) ≡ z
div-one z = omega (arith, ints)

pub pos_abs : (z : ℤ) → pos 0 <ℤ z → pos (unsigned_abs z) ≡ z
pos_abs z h = omega (arith, ints)

pub zero_minus : (z : ℤ) → pos 0 -ℤ z ≡ neg_ℤ z
zero_minus z = +ℤ_idl (neg_ℤ z)

unfoldable pub single : ℕ → ℤ → ℕ → ℤ
single u y w = cond (eqb u w) y (pos 0)

pub single-at : (u w : ℕ) (y : ℤ) → u ≡ w → single u y w ≡ y
unfolding single
single-at u w y e = cond_same u w y (pos 0) e

pub single-elsewhere : (u w : ℕ) (y : ℤ) → u ≢ w → single u y w ≡ pos 0
unfolding single
single-elsewhere u w y ne = cond_apart u w y (pos 0) ne

pub cross_arith : (d d' v m q b b' s s' : ℤ) → d *ℤ v ≡ (m *ℤ q) *ℤ b +ℤ m *ℤ s → d' *ℤ v ≡ (m *ℤ q) *ℤ b' +ℤ m *ℤ s'
    → m *ℤ (d' *ℤ (q *ℤ b +ℤ s)) ≡ m *ℤ (d *ℤ (q *ℤ b' +ℤ s'))
cross_arith d d' v m q b b' s s' h k =
    let x = simp expand at (ap (λ (z : ℤ). d' *ℤ z) h) in
    let y = simp expand at (ap (λ (z : ℤ). d *ℤ z) k) in
    simp expand (omega (arith, ints, x, y))

pub dvd_cross : (d d' x x' : ℤ) → d' *ℤ x ≡ d *ℤ x' → unsigned_abs d ∣ unsigned_abs d' * unsigned_abs x
dvd_cross d d' x x' e =
    let k : unsigned_abs d * unsigned_abs x' ≡ unsigned_abs d' * unsigned_abs x = sym (unsigned_abs-mul d x') ∙ ap unsigned_abs (sym e)
    ∙ unsigned_abs-mul d' x in
    subst (λ (m : ℕ). unsigned_abs d ∣ m) k (dvd-mul_right (unsigned_abs d) (unsigned_abs x'))

pub same_positive : (a b : ℤ) → pos 0 <ℤ a → pos 0 <ℤ b → unsigned_abs a ≡ unsigned_abs b → a ≡ b
same_positive a b h k e = omega (arith, ints)

pub negated : (z : ℤ) → (negsuc 0 *ℤ z -ℤ pos 0 *ℤ z) ≡ neg_ℤ z
negated z = omega (arith, ints)

pub minus_one_negates : (z : ℤ) → (negsuc 0 *ℤ z) ≡ neg_ℤ z
minus_one_negates z = omega (arith, ints)

pub positive_prop : (z : ℤ) → IsProp (pos 0 <ℤ z)
positive_prop z = hlevel props

pub single-le : (u w : ℕ) (y : ℤ) → y ≤ℤ pos 0 → single u y w ≤ℤ pos 0
single-le u w y h = elim (cases_eq u w) [ inl same ↦ rw (single-at u w y same) h | inr other ↦ rw (single-elsewhere u w y other) (omega (arith, ints)) ]

pub at_least_one : (m : ℤ) → pos 0 ≤ℤ m → m ≢ pos 0 → pos 1 ≤ℤ m
at_least_one m h ne = omega (arith, ints)

-- top over bottom is v, and q times it is x: x is q times v
pub quotient_whole : (x q v top bottom : ℤ) → pos 0 <ℤ bottom → x *ℤ bottom ≡ q *ℤ top → top ≡ v *ℤ bottom → x ≡ q *ℤ v
quotient_whole x q v top bottom h e is =
    cancel_positive bottom x (q *ℤ v) h (let k = ap (λ (z : ℤ). q *ℤ z) is in simp expand (omega (arith, ints, e, k)))

pub times_zero : (p q : ℤ) → p *ℤ pos 0 -ℤ q *ℤ pos 0 ≡ pos 0
times_zero p q = omega (arith, ints)

-- a product with a positive number is below another only if the other factor is
pub factor_below : (b x y : ℤ) → pos 0 <ℤ b → (x *ℤ b) <ℤ (y *ℤ b) → x <ℤ y
factor_below b x y positive h = omega (arith, ints, lt-zero_of_mul b (x -ℤ y) positive (omega (arith, ints, minus_times x y b, *ℤ_comm (x -ℤ y) b)))

pub number_short : (z : ℤ) → pos 0 ≤ℤ z → z <ℤ pos (2 ^ 127) → length (signed_decimal z) ≤ 39
number_short z low high =
    let short = length-decimal-le_wide 39 (unsigned_abs z) (omega arith) (omega (arith, ints)) (small_is_wide (unsigned_abs z) (omega (arith, ints))) in
    subst (λ y. length (signed_decimal y) ≤ 39) (abs_natural z low) short

pub below_limit : (z : ℤ) (limit : ℕ) → pos 1 ≤ℤ z → unsigned_abs z < limit → z <ℤ pos limit
below_limit z limit low h = omega (arith, ints)

pub floor_natural : (k t b : ℤ) → pos 0 <ℤ b → pos 0 ≤ℤ t → t <ℤ ((k +ℤ pos 1) *ℤ b) → pos 0 ≤ℤ k
floor_natural k t b positive natural below =
    by_lt_z k (pos 0) (λ less. absurd (omega (arith, ints, mul-le-zero (k +ℤ pos 1) b (omega (arith, ints)) (omega (arith, ints))))) (λ most. most)

pub twice_most : (n d : ℕ) → (pos n *ℤ pos 2) ≤ℤ (pos n *ℤ pos (suc (suc d)))
twice_most n d = omega (arith, ints)

-- the whole number below a whole fraction is its own
pub floor_once : (top bottom floor k : ℤ) → pos 0 <ℤ bottom → (floor *ℤ bottom) ≤ℤ top → top <ℤ ((floor +ℤ pos 1) *ℤ bottom) → top ≡ (k *ℤ bottom) → floor ≡ k
floor_once top bottom floor k positive low high is =
    let above = factor_below bottom k (floor +ℤ pos 1) positive (omega (arith, ints)) in
    let beneath = factor_below bottom floor (k +ℤ pos 1) positive (omega (arith, ints, distributes_right k (pos 1) bottom)) in
    omega (arith, ints)

pub pos_same : (m n : ℕ) → pos m ≡ pos n → m ≡ n
pos_same m n h = omega (arith, ints)

-- a value from 1 on
pub natural_of : (z : ℤ) → pos 1 ≤ℤ z → pos 0 ≤ℤ z
natural_of z low = omega (arith, ints)

pub next_value : (times : ℕ) (v c : ℤ) → ((v +ℤ (pos times *ℤ c)) +ℤ (pos 1 *ℤ c)) ≡ (v +ℤ (pos (times + 1) *ℤ c))
next_value times v c = omega (arith, ints)

pub replicate_zeros : (n r : ℕ) → get_or (replicate n (pos 0)) r (pos 0) ≡ pos 0
replicate_zeros n r = elim (cases_lt r n) [
  | inl within ↦ get_or-replicate n r (pos 0) (pos 0) within
  | inr past ↦ get_or_past (replicate n (pos 0)) r (pos 0) (omega (arith, length-replicate n (pos 0)))
]

pub natural_or_not : (z : ℤ) → (pos 0 ≤ℤ z) ⊎ (pos 0 ≤ℤ z → ⊥)
natural_or_not z = by_lt_z z (pos 0) (λ less. inr (λ h. omega (arith, ints))) inl

pub pos_cond : (b : Bool) (x y : ℕ) → cond b (pos x) (pos y) ≡ pos (cond b x y)
pos_cond true x y = refl
pos_cond false x y = refl

pub order_is : (l r v : ℤ) → l ≡ (r +ℤ v) → r ≤ℤ l → pos 0 ≤ℤ v
order_is l r v e h = omega (arith, ints)

pub order_back : (l r v : ℤ) → l ≡ (r +ℤ v) → pos 0 ≤ℤ v → r ≤ℤ l
order_back l r v e h = omega (arith, ints)

pub small_positive : (z : ℤ) → SFits w32 z → pos 0 <ℤ z → unsigned_abs z < 2 ^ 31
small_positive z f h = omega (arith, ints, f)

pub zero_from_bits : (z : ℤ) → SFits w128 z → of_z w128 z ≡ 0 → z ≡ pos 0
zero_from_bits z f e = omega (arith, ints, f)

-- 1 where a number is natural, else 0
unfoldable pub natural_one : ℤ → ℕ
natural_one (pos n) = 1
natural_one (negsuc n) = 0

pub natural_one-holds : (z : ℤ) → pos 0 ≤ℤ z → natural_one z ≡ 1
unfolding natural_one
natural_one-holds (pos n) h = refl
natural_one-holds (negsuc n) h = absurd (omega (arith, ints))

pub natural_one-fails : (z : ℤ) → (pos 0 ≤ℤ z → ⊥) → natural_one z ≡ 0
unfolding natural_one
natural_one-fails (pos n) h = absurd (h (omega (arith, ints)))
natural_one-fails (negsuc n) h = refl

pub natural_one-most : (z : ℤ) → natural_one z ≤ 1
unfolding natural_one
natural_one-most (pos n) = omega arith
natural_one-most (negsuc n) = omega arith

pub single-natural : (u w : ℕ) (y : ℤ) → pos 0 ≤ℤ y → pos 0 ≤ℤ single u y w
single-natural u w y h = elim (cases_eq u w) [ inl same ↦ rw (single-at u w y same) h | inr other ↦ rw (single-elsewhere u w y other) (omega (arith, ints)) ]

-- what fits by its absolute value fits with its sign turned
pub minus_fits : (w : Width) (z : ℤ) → unsigned_abs z < 2 ^ hbits w → SFits w (pos 0 -ℤ z)
minus_fits w z h = fits_signed_from_abs w (pos 0 -ℤ z) (omega (arith, ap unsigned_abs (zero_minus z) ∙ unsigned_abs-neg z))

-- sums of a product by one or by nothing
pub once_and_nothing : (z : ℤ) → z ≡ pos 1 *ℤ z +ℤ pos 0
once_and_nothing z = omega (arith, ints)

pub none_and_once : (b z : ℤ) → z ≡ pos 0 *ℤ b +ℤ z
none_and_once b z = omega (arith, ints)

pub and_none : (z b : ℤ) → z +ℤ pos 0 *ℤ b ≡ z
and_none z b = omega (arith, ints)

pub balance_of_one : (w s t c : ℤ) → t +ℤ s ≡ pos 0 *ℤ c → t ≡ pos 1 *ℤ w → s ≡ neg_ℤ w
balance_of_one w s t c e z = omega (arith, ints, e, z)
