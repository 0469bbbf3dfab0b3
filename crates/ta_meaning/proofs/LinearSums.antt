-- The numbers of sums, term by term, and of the forms that have them.
use Rattle.ta_meaning.proofs.Common.{◌≡◌, ℕ, zero, suc, ℤ, pos, Bool, cond, List, [], ◌∷◌, map, get_or, slice_get, Some, refl, sym, ap, subst, ◌∙◌, arith}
use Rattle.ta_meaning.proofs.Common.{nat_tests, bytes_eq-Decides, false_from_ne_true, bytes_eq, AllByRecursion, distinct_at, coefficient, named, Distinct}
use Rattle.ta_meaning.proofs.Common.{factor_coefficient}

-- ---- a name
abbrev is_name : List ℕ → List ℕ → ℤ
is_name n x = factor_coefficient x (named n)

none_there : (names : List (List ℕ)) (n : List ℕ) → AllByRecursion (λ y. n ≡ y → ⊥) names → (i : ℕ) → get_or (map (is_name n) names) i (pos 0) ≡ pos 0
none_there [] n d i = refl
none_there (y ∷ names) n d zero = ap (λ (b : Bool). cond b (pos 1) (pos 0)) (false_from_ne_true (bytes_eq n y) (λ e. d.0 ((bytes_eq-Decides n y).0 e)))
none_there (y ∷ names) n d (suc i) = none_there names n d.1 i

one_term : (i j : ℕ) → coefficient ((suc i, pos 1) ∷ []) (suc j) ≡ coefficient ((i, pos 1) ∷ []) j
one_term i j = grind (arith, nat_tests)

no_term : (j : ℕ) → coefficient ((zero, pos 1) ∷ []) (suc j) ≡ pos 0
no_term j = grind (arith, nat_tests)

late_term : (i : ℕ) → coefficient ((suc i, pos 1) ∷ []) zero ≡ pos 0
late_term i = grind (arith, nat_tests)

pub name_numbers : (names : List (List ℕ)) (n : List ℕ) (i : ℕ) → Distinct names → slice_get names i ≡ Some n → (j : ℕ)
    → coefficient ((i, pos 1) ∷ []) j ≡ get_or (map (is_name n) names) j (pos 0)
name_numbers [] n i d e j = cc
name_numbers (m ∷ names) n zero d e zero = let same : n ≡ m = cc in let test = (bytes_eq-Decides n m).1 same in sym
    (ap (λ (b : Bool). cond b (pos 1) (pos 0)) test)
name_numbers (m ∷ names) n zero d e (suc j) = let same : m ≡ n = cc in no_term j
    ∙ sym (none_there names n (subst (λ (x : List ℕ). AllByRecursion (λ y. x ≡ y → ⊥) names) same d.0) j)
name_numbers (m ∷ names) n (suc i) d e zero =
    let differs : n ≡ m → ⊥ = λ same. absurd (let two : zero ≡ suc i = distinct_at (m ∷ names) zero (suc i) m d refl (e ∙ ap Some same) in omega arith) in
    late_term i ∙ sym (ap (λ (b : Bool). cond b (pos 1) (pos 0)) (false_from_ne_true (bytes_eq n m) (λ t. differs ((bytes_eq-Decides n m).0 t))))
name_numbers (m ∷ names) n (suc i) d e (suc j) = one_term i j ∙ name_numbers names n i d.1 e j
