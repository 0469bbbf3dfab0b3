use Rattle.ta_linear.proofs.Common.{terms_value, length, drop, get_or, ◌≡◌, ◌≢◌, ℕ, ℤ, pos, negsuc, neg_ℤ, ◌-ℤ◌, inl, inr, ◌+◌, ◌<◌, ◌≤◌, ◌^◌, ◌+ℤ◌, ◌*ℤ◌, List}
use Rattle.ta_linear.proofs.Common.{[], ◌∷◌, ◌++◌, eqb, cond, refl, arith, sym, ap, ◌∙◌, ints, unsigned_abs-mul, nat_tests, eqb_tells, distributes, if_zero}
use Rattle.ta_linear.proofs.Common.{times_if, times_not_zero, InRange, coefficient, IsTerm, IsNormal, IsLeastTerm, SomeSumOutOfRange, IsSum, SumOutOfRange}
use Rattle.ta_linear.proofs.Common.{IsMultiple, MultipleOutOfRange, IsNegation, Form, *ℤ-zero, drop_more}
use Rattle.ta_base.proofs.Naturals.{cond_same}
use Rattle.std.proofs.Math.ListN.{drop_of_length-le}

pub IsNormal-le : (low high : ℕ) (ts : List (ℕ × ℤ)) → IsNormal low high ts → low ≤ high
IsNormal-le low high [] n = n
IsNormal-le low high (t ∷ ts) n = omega (arith, IsNormal-le (t.0 + 1) high ts n.2, n.0)

pub IsNormal-lower : (low low' high : ℕ) (ts : List (ℕ × ℤ)) → low' ≤ low → IsNormal low high ts → IsNormal low' high ts
IsNormal-lower low low' high [] h n = omega arith
IsNormal-lower low low' high (t ∷ ts) h n = (omega (arith, n.0), n.1, n.2)

pub IsNormal-higher : (low high high' : ℕ) (ts : List (ℕ × ℤ)) → high ≤ high' → IsNormal low high ts → IsNormal low high' ts
IsNormal-higher low high high' [] h n = omega arith
IsNormal-higher low high high' (t ∷ ts) h n = (n.0, n.1, IsNormal-higher (t.0 + 1) high high' ts h n.2)

pub IsNormal-push : (low mid : ℕ) (ts : List (ℕ × ℤ)) (t : ℕ × ℤ) → IsNormal low mid ts → mid ≤ t.0 → IsTerm t → IsNormal low (t.0 + 1) (ts ++ t ∷ [])
IsNormal-push low mid [] t n h term = (omega arith, term, omega arith)
IsNormal-push low mid (s ∷ ts) t n h term = (n.0, n.1, IsNormal-push (s.0 + 1) mid ts t n.2 h term)

pub coefficient-append : (xs ys : List (ℕ × ℤ)) (x : ℕ) → coefficient (xs ++ ys) x ≡ (coefficient xs x +ℤ coefficient ys x)
coefficient-append [] ys x = omega (arith, ints)
coefficient-append (t ∷ ts) ys x = omega (arith, ints, coefficient-append ts ys x)

-- nothing stands before a variable below the least
pub coefficient-below : (low high : ℕ) (ts : List (ℕ × ℤ)) (x : ℕ) → IsNormal low high ts → x < low → coefficient ts x ≡ pos 0
coefficient-below low high [] x n h = refl
coefficient-below low high (t ∷ ts) x n h =
    let rest = coefficient-below (t.0 + 1) high ts x n.2 (omega (arith, n.0)) in
    let least : low ≤ t.0 = n.0 in
    grind (arith, ints, nat_tests)

-- nothing stands before a variable above the greatest
pub coefficient-above : (low high : ℕ) (ts : List (ℕ × ℤ)) (x : ℕ) → IsNormal low high ts → high ≤ x → coefficient ts x ≡ pos 0
coefficient-above low high [] x n h = refl
coefficient-above low high (t ∷ ts) x n h =
    let rest = coefficient-above (t.0 + 1) high ts x n.2 h in
    let below = IsNormal-le (t.0 + 1) high ts n.2 in
    grind (arith, ints, nat_tests)

-- what a merge keeps: what it made, and what is left of both lists
pub record Merging (a b out left right : List (ℕ × ℤ)) : Type 0 where
  pub place : ℕ
  pub out_normal : IsNormal 0 place out
  pub left_normal : IsNormal place (2 ^ 32) left
  pub right_normal : IsNormal place (2 ^ 32) right
  pub sums : (x : ℕ) → ((coefficient out x +ℤ coefficient left x) +ℤ coefficient right x) ≡ (coefficient a x +ℤ coefficient b x)

-- what multiplying keeps
pub record Scaling (factor : ℤ) (all out left : List (ℕ × ℤ)) : Type 0 where
  pub place : ℕ
  pub out_normal : IsNormal 0 place out
  pub left_normal : IsNormal place (2 ^ 32) left
  pub sums : (x : ℕ) → (coefficient out x +ℤ (factor *ℤ coefficient left x)) ≡ (factor *ℤ coefficient all x)

pub merge-push : (a b out left right : List (ℕ × ℤ)) (t : ℕ × ℤ) (left_rest right_rest : List (ℕ × ℤ)) → Merging a b out left right
    → IsLeastTerm left right t left_rest right_rest → (t.1 ≢ pos 0) → Merging a b (out ++ t ∷ []) left_rest right_rest
merge-push a b out left right t left_rest right_rest m n ne =
    let next = n.normal m.place (2 ^ 32) m.left_normal m.right_normal in
    record {
      place = t.0 + 1;
      out_normal = IsNormal-push 0 m.place out t m.out_normal next.0 (record { not_zero = ne; in_range = next.1 });
      left_normal = next.2;
      right_normal = next.3;
      sums = λ x. omega (arith, ints, m.sums x, n.sums x, coefficient-append out (t ∷ []) x);
    }

pub merge-skip : (a b out left right : List (ℕ × ℤ)) (t : ℕ × ℤ) (left_rest right_rest : List (ℕ × ℤ)) → Merging a b out left right
    → IsLeastTerm left right t left_rest right_rest → t.1 ≡ pos 0 → Merging a b out left_rest right_rest
merge-skip a b out left right t left_rest right_rest m n zero =
    let next = n.normal m.place (2 ^ 32) m.left_normal m.right_normal in
    record {
      place = t.0 + 1;
      out_normal = IsNormal-higher 0 m.place (t.0 + 1) out (omega (arith, next.0)) m.out_normal;
      left_normal = next.2;
      right_normal = next.3;
      sums = λ x. omega (arith, ints, m.sums x, n.sums x, if_zero t.0 x t.1 zero);
    }

pub merge-leaves : (a b out left right : List (ℕ × ℤ)) → Merging a b out left right → SomeSumOutOfRange left right → (x : ℕ)
    × (InRange (coefficient a x +ℤ coefficient b x) → ⊥)
merge-leaves a b out left right m leaves =
    let w = leaves m.place (2 ^ 32) m.left_normal m.right_normal in
    let none = coefficient-above 0 m.place out w.0 m.out_normal w.1 in
    let same : (coefficient a w.0 +ℤ coefficient b w.0) ≡ (coefficient left w.0 +ℤ coefficient right w.0) = omega (arith, ints, m.sums w.0, none) in
    (w.0, λ h. w.2 (rw (← same) h))

pub merge-end : (a b out left right : List (ℕ × ℤ)) → Merging a b out left right → left ≡ [] → right ≡ [] → (x : ℕ)
    → coefficient out x ≡ (coefficient a x +ℤ coefficient b x)
merge-end a b out left right m none_left none_right x =
    let sums = rw (none_left, none_right) at (m.sums x) in
    omega (arith, ints, sums)

pub scale-push : (factor : ℤ) (all out : List (ℕ × ℤ)) (t : ℕ × ℤ) (rest : List (ℕ × ℤ)) (product : ℤ) → Scaling factor all out (t ∷ rest) → factor ≢ pos 0
    → product ≡ (factor *ℤ t.1) → InRange product → Scaling factor all (out ++ (t.0, product) ∷ []) rest
scale-push factor all out t rest product m ne is fits = record {
  place = t.0 + 1;
  out_normal = IsNormal-push 0 m.place out (t.0, product) m.out_normal m.left_normal.0
      (record { not_zero = λ zero. times_not_zero factor t.1 ne m.left_normal.1.not_zero (sym is ∙ zero); in_range = fits });
  left_normal = m.left_normal.2;
  sums = λ x. omega (
    arith,
    ints,
    m.sums x,
    coefficient-append out ((t.0, product) ∷ []) x,
    distributes factor (cond (eqb t.0 x) t.1 (pos 0))
        (coefficient rest x),
    times_if factor t.1 product t.0 x is,
  );
}

pub scale-leaves : (factor : ℤ) (all out : List (ℕ × ℤ)) (t : ℕ × ℤ) (rest : List (ℕ × ℤ)) → Scaling factor all out (t ∷ rest) → (InRange (factor *ℤ t.1) → ⊥)
    → (x : ℕ) × (InRange (factor *ℤ coefficient all x) → ⊥)
scale-leaves factor all out t rest m leaves =
    let none = coefficient-above 0 m.place out t.0 m.out_normal m.left_normal.0 in
    let later = coefficient-below (t.0 + 1) (2 ^ 32) rest t.0 m.left_normal.2 (omega arith) in
    let this : coefficient (t ∷ rest) t.0 ≡ t.1 = grind (arith, ints, nat_tests) in
    let same : (factor *ℤ t.1) ≡ (factor *ℤ coefficient all t.0) = omega (arith, ints, m.sums t.0, none, ap (λ z. factor *ℤ z) this) in
    (t.0, λ h. leaves (rw same h))

pub scale-push-at : (factor : ℤ) (all out xs : List (ℕ × ℤ)) (i : ℕ) (d : ℕ × ℤ) (product : ℤ) → Scaling factor all out (drop i xs) → i < length xs
    → factor ≢ pos 0 → product ≡ (factor *ℤ (get_or xs i d).1) → InRange product
    → Scaling factor all (out ++ ((get_or xs i d).0, product) ∷ []) (drop (i + 1) xs)
scale-push-at factor all out xs i d product m h ne is fits =
    scale-push factor all out (get_or xs i d) (drop (i + 1) xs) product (rw (drop_more xs i d h) at m) ne is fits

pub scale-leaves-at : (factor : ℤ) (all out xs : List (ℕ × ℤ)) (i : ℕ) (d : ℕ × ℤ) → Scaling factor all out (drop i xs) → i < length xs
    → (InRange (factor *ℤ (get_or xs i d).1) → ⊥) → (x : ℕ) × (InRange (factor *ℤ coefficient all x) → ⊥)
scale-leaves-at factor all out xs i d m h leaves =
    scale-leaves factor all out (get_or xs i d) (drop (i + 1) xs) (rw (drop_more xs i d h) at m) leaves

pub scale-end : (factor : ℤ) (all out xs : List (ℕ × ℤ)) (i : ℕ) → Scaling factor all out (drop i xs) → length xs ≤ i → (x : ℕ)
    → coefficient out x ≡ (factor *ℤ coefficient all x)
scale-end factor all out xs i m h x =
    let none : drop i xs ≡ [] = drop_of_length-le xs h in
    let sums = rw none at (m.sums x) in
    omega (arith, ints, sums, *ℤ-zero factor)

-- what a search for a variable keeps
pub record Looking (all left : List (ℕ × ℤ)) (x : ℕ) : Type 0 where
  pub place : ℕ
  pub normal : IsNormal place (2 ^ 32) left
  pub same : coefficient left x ≡ coefficient all x

pub look-found : (all xs : List (ℕ × ℤ)) (i x : ℕ) (d : ℕ × ℤ) → Looking all (drop i xs) x → i < length xs → (get_or xs i d).0 ≡ x
    → ((get_or xs i d).1 ≡ coefficient all x) × InRange (get_or xs i d).1
look-found all xs i x d l h e =
    let m = rw (drop_more xs i d h) at l in
    let t = get_or xs i d in
    let rest = coefficient-below (t.0 + 1) (2 ^ 32) (drop (i + 1) xs) x m.normal.2 (omega arith) in
    (omega (arith, ints, m.same, rest, cond_same t.0 x t.1 (pos 0) e), m.normal.1.in_range)

-- each coefficient of normal terms is in range
pub coefficient-fits : (low high : ℕ) (ts : List (ℕ × ℤ)) (x : ℕ) → IsNormal low high ts → InRange (coefficient ts x)
coefficient-fits low high [] x n = omega (arith, ints)
coefficient-fits low high (t ∷ ts) x n =
    let rest = coefficient-fits (t.0 + 1) high ts x n.2 in
    let later : t.0 ≡ x → coefficient ts x ≡ pos 0 = λ e. coefficient-below (t.0 + 1) high ts x n.2 (omega arith) in
    let fits : InRange t.1 = n.1.in_range in
    elim (eqb_tells t.0 x) [ inl e ↦ rw (e.0, later e.1) (omega (arith, ints, fits)) | inr ne ↦ rw ne.0 (omega (arith, ints, rest)) ]

-- the negative of a number in range is in range
negative-fits : (z : ℤ) → InRange z → InRange (negsuc 0 *ℤ z)
negative-fits z h = rw (unsigned_abs-mul (negsuc 0) z) (omega (arith, h))

pub negative_stays : (a : Form) → MultipleOutOfRange a (negsuc 0) → ⊥
negative_stays a (inl leaves) = leaves (negative-fits a.constant a.constant_fits)
negative_stays a (inr leaves) = leaves.1 (negative-fits (coefficient a.terms leaves.0) (coefficient-fits 0 (2 ^ 32) a.terms leaves.0 a.normal))

-- a result that is a form is in range
pub sum-stays : (sum a b : Form) → IsSum sum a b → SumOutOfRange a b → ⊥
sum-stays sum a b h (inl leaves) = leaves (rw (← h.constant) sum.constant_fits)
sum-stays sum a b h (inr leaves) = leaves.1 (rw (← h.coefficients leaves.0) (coefficient-fits 0 (2 ^ 32) sum.terms leaves.0 sum.normal))

pub multiple-stays : (multiple a : Form) (factor : ℤ) → IsMultiple multiple a factor → MultipleOutOfRange a factor → ⊥
multiple-stays multiple a factor h (inl leaves) = leaves (rw (← h.constant) multiple.constant_fits)
multiple-stays multiple a factor h (inr leaves) = leaves.1
    (rw (← h.coefficients leaves.0) (coefficient-fits 0 (2 ^ 32) multiple.terms leaves.0 multiple.normal))

pub negation-stays : (negation a : Form) → IsNegation negation a → InRange (neg_ℤ a.constant -ℤ pos 1)
negation-stays negation a h = rw (← h.constant) negation.constant_fits

pub terms_value-same : (ts : List (ℕ × ℤ)) (f g : ℕ → ℤ) → ((i : ℕ) → f i ≡ g i) → terms_value f ts ≡ terms_value g ts
terms_value-same [] f g h = refl
terms_value-same (t ∷ ts) f g h = omega (arith, ints, ap (λ z. t.1 *ℤ z) (h t.0), terms_value-same ts f g h)
