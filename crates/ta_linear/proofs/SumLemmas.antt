use Rattle.ta_linear.proofs.Common.{length, drop, get_or, ◌≡◌, ◌↔◌, ℕ, ℤ, ◌+◌, ◌<◌, ◌+ℤ◌, ◌*ℤ◌, List, arith, ints, InRange, IsNormal, terms_value, drop_more}
use Rattle.ta_linear.specs.Sums.{StaysInRange}
use Rattle.ta_linear.proofs.TermLemmas.{IsNormal-le}

-- what a sum of products keeps: its value with what is left, and whether it stays in range
pub record Summing (number : ℕ → ℤ) (high : ℕ) (start : ℤ) (all : List (ℕ × ℤ)) (sum : ℤ) (left : List (ℕ × ℤ)) : Type 0 where
  pub place : ℕ
  pub normal : IsNormal place high left
  pub value : (sum +ℤ terms_value number left) ≡ (start +ℤ terms_value number all)
  pub stays : StaysInRange number sum left ↔ StaysInRange number start all

pub sum-next : (number : ℕ → ℤ) (high : ℕ) (start : ℤ) (all : List (ℕ × ℤ)) (sum : ℤ) (xs : List (ℕ × ℤ)) (i : ℕ) (d : ℕ × ℤ) (next : ℤ)
    → Summing number high start all sum (drop i xs) → i < length xs → InRange ((get_or xs i d).1 *ℤ number (get_or xs i d).0)
    × InRange (sum +ℤ ((get_or xs i d).1 *ℤ number (get_or xs i d).0)) → next ≡ (sum +ℤ ((get_or xs i d).1 *ℤ number (get_or xs i d).0))
    → Summing number high start all next (drop (i + 1) xs)
sum-next number high start all sum xs i d next s h fits is =
    let m = rw (drop_more xs i d h) at s in
    rw is (record {
      place = (get_or xs i d).0 + 1;
      normal = m.normal.2;
      value = omega (arith, ints, m.value);
      stays = (λ rest. m.stays.0 (fits.0, fits.1, rest), λ whole. (m.stays.1 whole).2);
    })

pub sum-place : (number : ℕ → ℤ) (high : ℕ) (start : ℤ) (all : List (ℕ × ℤ)) (sum : ℤ) (xs : List (ℕ × ℤ)) (i : ℕ) (d : ℕ × ℤ)
    → Summing number high start all sum (drop i xs) → i < length xs → (get_or xs i d).0 < high
sum-place number high start all sum xs i d s h =
    let m = rw (drop_more xs i d h) at s in
    let above = IsNormal-le _ high _ m.normal.2 in
    omega arith
