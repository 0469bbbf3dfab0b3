-- sums over the first terms of a list
use Rattle.ta_encode.proofs.Common.{◌≡◌, ◌≢◌, ℕ, ℤ, pos, ◌+◌, ◌*◌, ◌<◌, ◌≤◌, ◌+ℤ◌, ◌*ℤ◌, unsigned_abs, List, [], ◌∷◌, ◌++◌, length, take, get_or, arith, sym}
use Rattle.ta_encode.proofs.Common.{ap, ◌∙◌, subst, ◌==◌, if◌then◌else◌, FitsSigned, to_z, of_z, w128, ints, fits_signed_mul, take_more, take-length}
use Rattle.ta_encode.proofs.Common.{AllByRecursion, each_get_or, abs_product, abs_sum, fits_sum, to_z_abs, coefficient, terms_value, coefficient-append}
use Rattle.ta_encode.proofs.Common.{cond_apart, cond_same, +ℤ_idr}

abbrev pub at_variable : (ℕ × ℤ) → ℕ → ℤ
at_variable t x = if t.0 == x then t.1 else pos 0

pub coefficient_more : (ts : List (ℕ × ℤ)) (i x : ℕ) (d : ℕ × ℤ) → i < length ts
    → coefficient (take (i + 1) ts) x ≡ (coefficient (take i ts) x +ℤ at_variable (get_or ts i d) x)
coefficient_more ts i x d b = ap (λ us. coefficient us x) (take_more ts i d b) ∙ coefficient-append (take i ts) (get_or ts i d ∷ []) x
    ∙ ap (λ z. coefficient (take i ts) x +ℤ z) (+ℤ_idr (at_variable (get_or ts i d) x))

terms_value-append : (f : ℕ → ℤ) (xs ys : List (ℕ × ℤ)) → terms_value f (xs ++ ys) ≡ (terms_value f xs +ℤ terms_value f ys)
terms_value-append f [] ys = omega (arith, ints)
terms_value-append f (t ∷ xs) ys = omega (arith, ints, terms_value-append f xs ys)

pub terms_value_more : (f : ℕ → ℤ) (ts : List (ℕ × ℤ)) (i : ℕ) (d : ℕ × ℤ) → i < length ts
    → terms_value f (take (i + 1) ts) ≡ (terms_value f (take i ts) +ℤ ((get_or ts i d).1 *ℤ f (get_or ts i d).0))
terms_value_more f ts i d b = ap (terms_value f) (take_more ts i d b) ∙ terms_value-append f (take i ts) (get_or ts i d ∷ [])
    ∙ ap (λ z. terms_value f (take i ts) +ℤ z) (+ℤ_idr ((get_or ts i d).1 *ℤ f (get_or ts i d).0))

abbrev pub Small : ℕ × ℤ → Type 0
Small t = unsigned_abs t.1 ≤ 1000000000

-- a sum of coefficients of at most 16 terms
pub record Counted (ts : List (ℕ × ℤ)) (i x : ℕ) (sum : ℤ) : Type 0 where
  pub value : sum ≡ coefficient (take i ts) x
  pub small : unsigned_abs sum ≤ i * 1000000000

pub count_fits : (ts : List (ℕ × ℤ)) (i x : ℕ) (sum : ℤ) → AllByRecursion Small ts → length ts ≤ 16 → i < length ts → Counted ts i x sum
    → FitsSigned w128 (sum +ℤ to_z w128 (of_z w128 (get_or ts i (0, pos 0)).1))
count_fits ts i x sum each few b h =
    let item = get_or ts i (0, pos 0) in
    let small : unsigned_abs item.1 ≤ 1000000000 = each_get_or Small ts i (0, pos 0) each b in
    let same = to_z_abs item.1 1000000000 small (omega arith) in
    subst (λ z. FitsSigned w128 (sum +ℤ z)) (sym same) (fits_sum sum item.1 (i * 1000000000) 1000000000 h.small small (omega arith))

pub count_more : (ts : List (ℕ × ℤ)) (i x : ℕ) (sum next : ℤ) → AllByRecursion Small ts → length ts ≤ 16 → i < length ts → Counted ts i x sum
    → (get_or ts i (0, pos 0)).0 ≡ x → next ≡ to_z w128 (of_z w128 (sum +ℤ to_z w128 (of_z w128 (get_or ts i (0, pos 0)).1))) → Counted ts (i + 1) x next
count_more ts i x sum next each few b h same e =
    let item = get_or ts i (0, pos 0) in
    let small : unsigned_abs item.1 ≤ 1000000000 = each_get_or Small ts i (0, pos 0) each b in
    let plain : to_z w128 (of_z w128 item.1) ≡ item.1 = to_z_abs item.1 1000000000 small (omega arith) in
    let most = abs_sum sum item.1 (i * 1000000000) 1000000000 h.small small in
    let is : next ≡ (sum +ℤ item.1) = e ∙ ap (λ z. to_z w128 (of_z w128 (sum +ℤ z))) plain
    ∙ to_z_abs (sum +ℤ item.1) (i * 1000000000 + 1000000000) most (omega arith) in
    record {
      value = is ∙ ap (λ z. z +ℤ item.1) h.value ∙ ap (λ z. coefficient (take i ts) x +ℤ z) (sym (cond_same item.0 x item.1 (pos 0) same))
          ∙ sym (coefficient_more ts i x (0, pos 0) b);
      small = subst (λ z. unsigned_abs z ≤ (i + 1) * 1000000000) (sym is) (omega arith);
    }

pub count_past : (ts : List (ℕ × ℤ)) (i x : ℕ) (sum next : ℤ) → i < length ts → Counted ts i x sum → (get_or ts i (0, pos 0)).0 ≢ x → next ≡ sum
    → Counted ts (i + 1) x next
count_past ts i x sum next b h other e =
    let item = get_or ts i (0, pos 0) in
    record {
      value = e ∙ h.value ∙ sym (+ℤ_idr (coefficient (take i ts) x)) ∙ ap (λ z. coefficient (take i ts) x +ℤ z) (sym (cond_apart item.0 x item.1 (pos 0) other))
          ∙ sym (coefficient_more ts i x (0, pos 0) b);
      small = subst (λ z. unsigned_abs z ≤ (i + 1) * 1000000000) (sym e) (omega (arith, h.small));
    }

pub counted_all : (ts : List (ℕ × ℤ)) (i x : ℕ) (sum : ℤ) → i ≡ length ts → Counted ts i x sum → sum ≡ coefficient ts x
counted_all ts i x sum e h = h.value ∙ ap (λ n. coefficient (take n ts) x) e ∙ ap (λ us. coefficient us x) (take-length ts)

-- the value of at most 224 terms at points of at most 17,000,000,000 in absolute value
pub record Valued (f : ℕ → ℤ) (ts : List (ℕ × ℤ)) (i : ℕ) (sum : ℤ) : Type 0 where
  pub value : sum ≡ terms_value f (take i ts)
  pub small : unsigned_abs sum ≤ i * 17000000000000000000

abbrev pub product : List (ℕ × ℤ) → ℕ → ℤ → ℤ
product ts i r = to_z w128 (of_z w128 (get_or ts i (0, pos 0)).1) *ℤ to_z w128 (of_z w128 r)

product_is : (ts : List (ℕ × ℤ)) (i : ℕ) (r : ℤ) → AllByRecursion Small ts → i < length ts → unsigned_abs r ≤ 17000000000
    → product ts i r ≡ ((get_or ts i (0, pos 0)).1 *ℤ r)
product_is ts i r each b h =
    let item = get_or ts i (0, pos 0) in
    let small : unsigned_abs item.1 ≤ 1000000000 = each_get_or Small ts i (0, pos 0) each b in
    ap (λ z. z *ℤ to_z w128 (of_z w128 r)) (to_z_abs item.1 1000000000 small (omega arith)) ∙ ap (λ z. item.1 *ℤ z) (to_z_abs r 17000000000 h (omega arith))

pub product_fits : (ts : List (ℕ × ℤ)) (i : ℕ) (r : ℤ) → AllByRecursion Small ts → i < length ts → unsigned_abs r ≤ 17000000000
    → FitsSigned w128 (product ts i r)
product_fits ts i r each b h =
    let item = get_or ts i (0, pos 0) in
    let small : unsigned_abs item.1 ≤ 1000000000 = each_get_or Small ts i (0, pos 0) each b in
    subst (FitsSigned w128) (sym (product_is ts i r each b h)) (fits_signed_mul w128 item.1 r 1000000000 17000000000 small h (omega arith))

pub value_fits : (f : ℕ → ℤ) (ts : List (ℕ × ℤ)) (i : ℕ) (sum r : ℤ) → AllByRecursion Small ts → length ts ≤ 224 → i < length ts → Valued f ts i sum
    → unsigned_abs r ≤ 17000000000 → FitsSigned w128 (sum +ℤ to_z w128 (of_z w128 (product ts i r)))
value_fits f ts i sum r each few b h g =
    let item = get_or ts i (0, pos 0) in
    let small : unsigned_abs item.1 ≤ 1000000000 = each_get_or Small ts i (0, pos 0) each b in
    let most = abs_product item.1 r small g in
    let is = ap (λ z. to_z w128 (of_z w128 z)) (product_is ts i r each b g) ∙ to_z_abs (item.1 *ℤ r) 17000000000000000000 most (omega arith) in
    subst (λ z. FitsSigned w128 (sum +ℤ z)) (sym is) (fits_sum sum (item.1 *ℤ r) (i * 17000000000000000000) 17000000000000000000 h.small most (omega arith))

pub value_more : (f : ℕ → ℤ) (ts : List (ℕ × ℤ)) (i : ℕ) (sum r next : ℤ) → AllByRecursion Small ts → length ts ≤ 224 → i < length ts → Valued f ts i sum
    → r ≡ f (get_or ts i (0, pos 0)).0 → unsigned_abs r ≤ 17000000000 → next ≡ to_z w128 (of_z w128 (sum +ℤ to_z w128 (of_z w128 (product ts i r))))
    → Valued f ts (i + 1) next
value_more f ts i sum r next each few b h same g e =
    let item = get_or ts i (0, pos 0) in
    let small : unsigned_abs item.1 ≤ 1000000000 = each_get_or Small ts i (0, pos 0) each b in
    let most = abs_product item.1 r small g in
    let plain = ap (λ z. to_z w128 (of_z w128 z)) (product_is ts i r each b g) ∙ to_z_abs (item.1 *ℤ r) 17000000000000000000 most (omega arith) in
    let whole = abs_sum sum (item.1 *ℤ r) (i * 17000000000000000000) 17000000000000000000 h.small most in
    let is : next ≡ (sum +ℤ (item.1 *ℤ r)) = e ∙ ap (λ z. to_z w128 (of_z w128 (sum +ℤ z))) plain
    ∙ to_z_abs (sum +ℤ (item.1 *ℤ r)) (i * 17000000000000000000 + 17000000000000000000) whole (omega arith) in
    record {
      value = is ∙ ap (λ z. z +ℤ (item.1 *ℤ r)) h.value ∙ ap (λ z. terms_value f (take i ts) +ℤ (item.1 *ℤ z)) same
          ∙ sym (terms_value_more f ts i (0, pos 0) b);
      small = subst (λ z. unsigned_abs z ≤ (i + 1) * 17000000000000000000) (sym is) (omega arith);
    }

pub valued_all : (f : ℕ → ℤ) (ts : List (ℕ × ℤ)) (i : ℕ) (sum : ℤ) → i ≡ length ts → Valued f ts i sum → sum ≡ terms_value f ts
valued_all f ts i sum e h = h.value ∙ ap (λ n. terms_value f (take n ts)) e ∙ ap (terms_value f) (take-length ts)
