-- forms of the code are those of the definitions, and small ones stay in range
use Rattle.ta_moment_tree.proofs.Common.{mul-le-mul, to_z, of_z, get_or, length, subst, zero, suc, ◌++◌, ◌≢◌, cond, eqb, ◌≡◌, ◌∙◌, ℕ, ℤ, pos, negsuc, ◌+◌, ◌*◌}
use Rattle.ta_moment_tree.proofs.Common.{◌<◌, ◌≤◌, ◌^◌, ◌+ℤ◌, ◌-ℤ◌, ◌*ℤ◌, unsigned_abs, Bool, true, false, List, [], ◌∷◌, inl, inr, refl, sym, ap, arith, ◌||◌}
use Rattle.ta_moment_tree.proofs.Common.{◌==◌, if◌then◌else◌, not, Err, ints, *ℤ-zero, coefficient-append, eq-eqb, true≢false, false≢true, or_cases, nat_tests}
use Rattle.ta_moment_tree.proofs.Common.{w128, abs_minus, abs_sum, to_z_abs, all_below-from, any_below-at, any_below, InRange, coefficient, IsNormal}
use Rattle.ta_moment_tree.proofs.Common.{IsMultiple, MultipleOutOfRange, Form, UnknownForm, number_form, unknown_form, plus_form, times_form, minus_form}
use Rattle.ta_moment_tree.proofs.Common.{below_zero, Speaks, SmallBy, form_of, has_negative}
use Rattle.std.specs.Prelude.{IfOk, Result, Ok}
use Rattle.std.proofs.lemmas.Int.{unsigned_abs-mul}
use Rattle.std.proofs.Math.Nat.{lt_of_not-le}
use Rattle.ta_linear.proofs.NormalTerms.{coefficient-first, coefficient-other}
use Rattle.ta_linear.specs.Forms.{IsSum, SumOutOfRange}

-- forms with the same numbers are the same
pub form_same : (f g : UnknownForm) → f.constant ≡ g.constant → ((u : ℕ) → f.coefficient u ≡ g.coefficient u) → f ≡ g
form_same f g e h = λ i. record { constant = e i; coefficient = λ u. h u i }

pub sum_same : (sum x y : Form) → IsSum sum x y → form_of sum ≡ plus_form (form_of x) (form_of y)
sum_same sum x y h = form_same (form_of sum) (plus_form (form_of x) (form_of y)) h.constant h.coefficients

pub multiple_same : (multiple x : Form) (factor : ℤ) → IsMultiple multiple x factor → form_of multiple ≡ times_form factor (form_of x)
multiple_same multiple x factor h = form_same (form_of multiple) (times_form factor (form_of x)) h.constant h.coefficients

pub sum_stays : (x y : Form) → SmallBy (2 ^ 120) (form_of x) → SmallBy (2 ^ 120) (form_of y) → SumOutOfRange x y → ⊥
sum_stays x y h k (inl leaves) = leaves (omega (arith, abs_sum x.constant y.constant (2 ^ 120) (2 ^ 120) h.constant k.constant))
sum_stays x y h k (inr leaves) = leaves.1
    (omega (
      arith,
      abs_sum (coefficient x.terms leaves.0) (coefficient y.terms leaves.0) (2 ^ 120) (2 ^ 120) (h.coefficients leaves.0)
          (k.coefficients leaves.0),
    ))

product_fits : (z x : ℤ) → unsigned_abs z ≤ 2 ^ 40 → unsigned_abs x ≤ 2 ^ 80 → InRange (z *ℤ x)
product_fits z x h k = rw (unsigned_abs-mul z x) (omega (arith, mul-le-mul h k))

pub product_stays : (x : Form) (z : ℤ) → unsigned_abs z ≤ 2 ^ 40 → SmallBy (2 ^ 80) (form_of x) → MultipleOutOfRange x z → ⊥
product_stays x z h k (inl leaves) = leaves (product_fits z x.constant h k.constant)
product_stays x z h k (inr leaves) = leaves.1 (product_fits z (coefficient x.terms leaves.0) h (k.coefficients leaves.0))

-- a form and another's negative
minus_one : (x y : ℤ) → x +ℤ (negsuc 0 *ℤ y) ≡ x -ℤ y
minus_one x y = omega (arith, ints)

pub plus_turned : (f g : UnknownForm) → plus_form f (times_form (negsuc 0) g) ≡ minus_form f g
plus_turned f g = form_same (plus_form f (times_form (negsuc 0) g)) (minus_form f g) (minus_one f.constant g.constant)
    (λ u. minus_one (f.coefficient u) (g.coefficient u))

turned_small : (z : ℤ) (n : ℕ) → unsigned_abs z ≤ n → unsigned_abs (negsuc 0 *ℤ z) ≤ n
turned_small z n h = omega (arith, ints)

pub small_turned : (n : ℕ) (f : UnknownForm) → SmallBy n f → SmallBy n (times_form (negsuc 0) f)
small_turned n f h = record { constant = turned_small f.constant n h.constant; coefficients = λ u. turned_small (f.coefficient u) n (h.coefficients u) }

pub small_more : (m n : ℕ) (f : UnknownForm) → m ≤ n → SmallBy m f → SmallBy n f
small_more m n f le h = record { constant = (let c = h.constant in omega arith); coefficients = λ u. (let c = h.coefficients u in omega arith) }

pub small_plus : (m n : ℕ) (f g : UnknownForm) → SmallBy m f → SmallBy n g → SmallBy (m + n) (plus_form f g)
small_plus m n f g h k = record {
  constant = abs_sum f.constant g.constant m n h.constant k.constant;
  coefficients = λ u. abs_sum (f.coefficient u) (g.coefficient u) m n (h.coefficients u)
      (k.coefficients u);
}

pub small_minus : (m n : ℕ) (f g : UnknownForm) → SmallBy m f → SmallBy n g → SmallBy (m + n) (minus_form f g)
small_minus m n f g h k = record {
  constant = abs_minus f.constant g.constant m n h.constant k.constant;
  coefficients = λ u. abs_minus (f.coefficient u) (g.coefficient u) m n
      (h.coefficients u) (k.coefficients u);
}

times_small : (z x : ℤ) (m n : ℕ) → unsigned_abs z ≤ m → unsigned_abs x ≤ n → unsigned_abs (z *ℤ x) ≤ m * n
times_small z x m n h k = rw (unsigned_abs-mul z x) (mul-le-mul h k)

pub small_times : (m n : ℕ) (z : ℤ) (f : UnknownForm) → unsigned_abs z ≤ m → SmallBy n f → SmallBy (m * n) (times_form z f)
small_times m n z f h k = record
    { constant = times_small z f.constant m n h k.constant; coefficients = λ u. times_small z (f.coefficient u) m n h (k.coefficients u) }

pub small_number : (n : ℕ) (z : ℤ) → unsigned_abs z ≤ n → SmallBy n (number_form z)
small_number n z h = record { constant = h; coefficients = λ u. omega (arith, ints) }

one_small : (x u : ℕ) → unsigned_abs ((unknown_form x).coefficient u) ≤ 1
one_small x u = grind (arith, ints, nat_tests)

pub small_unknown : (x : ℕ) → SmallBy 1 (unknown_form x)
small_unknown x = record { constant = omega (arith, ints); coefficients = one_small x }

-- ---- whether a number of a form is negative
not_negative_sum : (y z : ℤ) → below_zero y ≡ false → below_zero z ≡ false → below_zero (y +ℤ z) ≡ false
not_negative_sum (pos m) (pos n) h k = refl
not_negative_sum (pos m) (negsuc n) h k = absurd (true≢false k)
not_negative_sum (negsuc m) z h k = absurd (true≢false h)

not_negative_if : (b : Bool) (z : ℤ) → below_zero z ≡ false → below_zero (cond b z (pos 0)) ≡ false
not_negative_if true z h = h
not_negative_if false z h = refl

none_negative : (ts : List (ℕ × ℤ)) → has_negative ts ≡ false → (u : ℕ) → below_zero (coefficient ts u) ≡ false
none_negative [] h u = refl
none_negative (t ∷ ts) h u = not_negative_sum (cond (eqb t.0 u) t.1 (pos 0)) (coefficient ts u)
    (not_negative_if (eqb t.0 u) t.1 (or_none (below_zero t.1) (has_negative ts) h).0) (none_negative ts (or_none (below_zero t.1) (has_negative ts) h).1 u)
  where
    or_none : (b c : Bool) → (b || c) ≡ false → (b ≡ false) × (c ≡ false)
    or_none true c e = absurd (true≢false e)
    or_none false c e = (refl, e)

record SomeNegative (low : ℕ) (ts : List (ℕ × ℤ)) : Type 0 where
  pub unknown : ℕ
  pub least : low ≤ unknown
  pub negative : below_zero (coefficient ts unknown) ≡ true

head_negative : (low high : ℕ) (t : ℕ × ℤ) (ts : List (ℕ × ℤ)) → IsNormal low high (t ∷ ts) → below_zero t.1 ≡ true → SomeNegative low (t ∷ ts)
head_negative low high t ts n e = record { unknown = t.0; least = n.0; negative = ap below_zero (coefficient-first high t ts n.2) ∙ e }

later_negative : (low high : ℕ) (t : ℕ × ℤ) (ts : List (ℕ × ℤ)) → IsNormal low high (t ∷ ts) → SomeNegative (t.0 + 1) ts → SomeNegative low (t ∷ ts)
later_negative low high t ts n more =
    let least = more.least in
    let first = n.0 in
    let other : t.0 ≢ more.unknown = (λ q. absurd (let w = q in omega arith)) in
    record { unknown = more.unknown; least = omega arith; negative = ap below_zero (coefficient-other t ts more.unknown other) ∙ more.negative }

some_negative : (low high : ℕ) (ts : List (ℕ × ℤ)) → IsNormal low high ts → has_negative ts ≡ true → SomeNegative low ts
some_negative low high [] n h = absurd (false≢true h)
some_negative low high (t ∷ ts) n h = elim (or_cases (below_zero t.1) (has_negative ts) h) [
  | inl e ↦ head_negative low high t ts n e
  | inr e ↦ later_negative low high t ts n (some_negative (t.0 + 1) high ts n.2 e)
]

pub negative_is : (n : ℕ) (x : Form) → Speaks n (form_of x) → has_negative x.terms ≡ any_below n (λ u. below_zero (coefficient x.terms u))
negative_is n x speaks = at (has_negative x.terms) refl
  where
    at : (b : Bool) → has_negative x.terms ≡ b → has_negative x.terms ≡ any_below n (λ u. below_zero (coefficient x.terms u))
    at true e =
        let some = some_negative 0 (2 ^ 32) x.terms x.normal e in
        let within : some.unknown < n = lt_of_not-le (λ le. absurd (true≢false (sym some.negative ∙ ap below_zero (speaks some.unknown le)))) in
        e ∙ sym (any_below-at n (λ u. below_zero (coefficient x.terms u)) some.unknown within some.negative)
    at false e = e ∙ sym (ap not (all_below-from n (λ u. not (below_zero (coefficient x.terms u))) (λ u _. ap not (none_negative x.terms e u))))

-- where the first isn't so
pub or_after : (b c : Bool) → b ≡ false → c ≡ (b || c)
or_after true c e = absurd (true≢false e)
or_after false c e = refl

pub number_is : (f : Form) (z : ℤ) → f.constant ≡ z → f.terms ≡ [] → form_of f ≡ number_form z
number_is f z e none = form_same (form_of f) (number_form z) e (λ u. ap (λ (us : List (ℕ × ℤ)). coefficient us u) none)

pub minus_speaks : (n : ℕ) (f g : UnknownForm) → Speaks n f → Speaks n g → Speaks n (minus_form f g)
minus_speaks n f g h k u b = omega (arith, ints, h u b, k u b)

-- a term's multiple
times_term : (k c : ℤ) (u v : ℕ) → coefficient ((u, k *ℤ c) ∷ []) v ≡ (k *ℤ coefficient ((u, c) ∷ []) v)
times_term k c u v = where_it_stands (u == v)
  where
    same : (y : ℤ) → (y +ℤ pos 0) ≡ y
    same y = omega (arith, ints)

    where_it_stands : (b : Bool) → ((if b then (k *ℤ c) else pos 0) +ℤ pos 0) ≡ (k *ℤ ((if b then c else pos 0) +ℤ pos 0))
    where_it_stands true = same (k *ℤ c) ∙ sym (ap (λ y. k *ℤ y) (same c))
    where_it_stands false = sym (*ℤ-zero k)

-- a form that is one term, added behind another's terms
pub term_added : (sum form x : Form) (factor product : ℤ) (t : ℕ × ℤ) → sum.constant ≡ form.constant → sum.terms ≡ form.terms ++ (t.0, product) ∷ []
    → x.constant ≡ pos 0 → x.terms ≡ t ∷ [] → product ≡ (factor *ℤ t.1)
    → form_of sum ≡ plus_form (form_of form) (times_form factor (form_of x))
term_added sum form x factor product t e g h k same =
    let none : form.constant ≡ (form.constant +ℤ pos 0) = omega (arith, ints) in
    form_same _ _ (e ∙ none ∙ ap (λ z. form.constant +ℤ z) (sym (ap (λ z. factor *ℤ z) h ∙ *ℤ-zero factor)))
    (λ u. ap (λ ts. coefficient ts u) (g ∙ ap (λ z. form.terms ++ (t.0, z) ∷ []) same) ∙ coefficient-append form.terms ((t.0, factor *ℤ t.1) ∷ []) u
    ∙ ap (λ z. coefficient form.terms u +ℤ z) (times_term factor t.1 t.0 u ∙ ap (λ ts. factor *ℤ coefficient ts u) (sym k)))

-- terms end before an unknown where the last of them does
pub ends_before : (low high n : ℕ) (ts : List (ℕ × ℤ)) (i : ℕ) (d : ℕ × ℤ) → IsNormal low high ts → suc i ≡ length ts → (get_or ts i d).0 < n
    → IsNormal low n ts
ends_before low high n [] i d h e b = absurd (omega arith)
ends_before low high n (t ∷ []) zero d h e b = (h.0, h.1, omega arith)
ends_before low high n (t ∷ []) (suc i) d h e b = absurd (omega arith)
ends_before low high n (t ∷ (s ∷ ts)) zero d h e b = absurd (omega arith)
ends_before low high n (t ∷ (s ∷ ts)) (suc i) d h e b = (h.0, h.1, ends_before (t.0 + 1) high n (s ∷ ts) i d h.2 (omega arith) b)

-- the numbers of a form that is one term are small
pub term_small : (n : ℕ) (x : Form) (t : ℕ × ℤ) → x.terms ≡ t ∷ [] → SmallBy n (form_of x) → unsigned_abs t.1 ≤ n
term_small n x t k h = subst (λ z. unsigned_abs z ≤ n) (ap (λ ts. coefficient ts t.0) k ∙ at_its_own) (h.coefficients t.0)
  where
    same : (y : ℤ) → (y +ℤ pos 0) ≡ y
    same y = omega (arith, ints)

    at_its_own : coefficient (t ∷ []) t.0 ≡ t.1
    at_its_own = ap (λ b. (if b then t.1 else pos 0) +ℤ pos 0) (eq-eqb t.0 t.0 refl) ∙ same t.1

-- the product of small numbers, as it is computed
pub small_product : (z x : ℤ) → unsigned_abs z ≤ 17000000000 → unsigned_abs x ≤ 3 → unsigned_abs (z *ℤ x) ≤ 51000000000
small_product z x h k = rw (unsigned_abs-mul z x) (omega (arith, mul-le-mul h k))

pub product_is : (z x : ℤ) → unsigned_abs z ≤ 17000000000 → unsigned_abs x ≤ 3
    → to_z w128 (of_z w128 (to_z w128 (of_z w128 z) *ℤ to_z w128 (of_z w128 x))) ≡ (z *ℤ x)
product_is z x h k =
    ap (λ y. to_z w128 (of_z w128 (y *ℤ to_z w128 (of_z w128 x)))) (to_z_abs z 17000000000 h (omega arith))
    ∙ ap (λ y. to_z w128 (of_z w128 (z *ℤ y))) (to_z_abs x 3 k (omega arith))
    ∙ to_z_abs (z *ℤ x) 51000000000 (small_product z x h k) (omega arith)

-- two facts of a result give a third
pub both_ok : {A E : Type 0} {P Q R : A → Type 0} (r : Result A E) → ((x : A) → P x → Q x → R x) → IfOk r P → IfOk r Q → IfOk r R
both_ok (Ok x) f p q = f x p q
both_ok (Err e) f p q = tt
