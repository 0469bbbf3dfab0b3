-- bounds of rows, and what they keep
use Rattle.ta_revised.proofs.Common.{◌≡◌, inl, inr, ℕ, ◌<◌, ◌≤◌, ◌+◌, ◌*◌, ◌^◌, List, ◌∷◌, length, map, set, get_or, arith, sym, refl, ℤ, pos, neg_ℤ, ◌-ℤ◌}
use Rattle.ta_revised.proofs.Common.{◌*ℤ◌, ◌<ℤ◌, unsigned_abs, get_or-set_same, get_or-set_other, int_div, cases_eq, length-set, All-from_get_or, All-map}
use Rattle.ta_revised.proofs.Common.{All-set, le_of_dvd, dvd_antisymm, one-dvd, SFits, abs_minus, abs_positive, div-one, product_le, quotient_le}
use Rattle.ta_revised.proofs.Common.{unsigned_abs-neg, InRange, TableauRow, combine, merged_by, divided, turned, divisor_of, factor_divisor, CombinesInRange}
use Rattle.ta_revised.proofs.Common.{MergesByInRange, AreBounded, IsBound, CombinesIn16, AllCombineIn16, IsGcd-gcd_of, fits_signed_from_abs, ints}
use Rattle.ta_revised.proofs.Common.{gcd_with_divides, length-combine, get_or-combine, factors_positive}
use Rattle.std.specs.Int.{w16}

pub fits16 : (z : ℤ) (t : ℕ) → unsigned_abs z ≤ t → t < 2 ^ 15 → SFits w16 z
fits16 z t h k = fits_signed_from_abs w16 z (omega arith)

small_positive : (z : ℤ) → SFits w16 z → pos 0 <ℤ z → unsigned_abs z < 2 ^ 15
small_positive z f h = omega (arith, ints, f)

abbrev pub IsSmall : ℤ → Type 0
IsSmall z = unsigned_abs z < 2 ^ 15

-- the bound of a place after a merge
pub record CombinesBelow (p a q c : ℤ) (t : ℕ) : Type 0 where
  pub left : unsigned_abs (p *ℤ a) ≤ t
  pub right : unsigned_abs (q *ℤ c) ≤ t
  pub difference : unsigned_abs (p *ℤ a -ℤ q *ℤ c) ≤ t

pub combines_below : (p a q c : ℤ) (b d : ℕ) → unsigned_abs a ≤ b → unsigned_abs c ≤ d → CombinesBelow p a q c (unsigned_abs p * b + unsigned_abs q * d)
combines_below p a q c b d h k =
    let x = product_le p a b h in
    let y = product_le q c d k in
    record {
      left = omega arith;
      right = omega arith;
      difference = abs_minus (p *ℤ a) (q *ℤ c) (unsigned_abs p * b) (unsigned_abs q * d) x y;
    }

pub in16 : (p a q c : ℤ) (t : ℕ) → CombinesBelow p a q c t → t < 2 ^ 15 → CombinesIn16 p a q c
in16 p a q c t h k = record {
  left = fits16 (p *ℤ a) t h.left k;
  right = fits16 (q *ℤ c) t h.right k;
  difference = fits16 (p *ℤ a -ℤ q *ℤ c) t h.difference k;
}

pub combine_in16 : (p a q c : ℤ) (b d : ℕ) → unsigned_abs a ≤ b → unsigned_abs c ≤ d → unsigned_abs p * b + unsigned_abs q * d < 2 ^ 15 → CombinesIn16 p a q c
combine_in16 p a q c b d h k within = in16 p a q c (unsigned_abs p * b + unsigned_abs q * d) (combines_below p a q c b d h k) within

pub in_range_of : (z : ℤ) (t : ℕ) → unsigned_abs z ≤ t → t < 2 ^ 15 → InRange z
in_range_of z t h k = omega arith

combines_in_range : (p a q c : ℤ) (t : ℕ) → CombinesBelow p a q c t → t < 2 ^ 15 → CombinesInRange p a q c
combines_in_range p a q c t h k = record {
  left = in_range_of (p *ℤ a) t h.left k;
  right = in_range_of (q *ℤ c) t h.right k;
  difference = in_range_of (p *ℤ a -ℤ q *ℤ c) t h.difference k;
}

pub cell_le : (xs : List ℤ) (b j : ℕ) → AreBounded b xs → j < length xs → unsigned_abs (get_or xs j (pos 0)) ≤ b
cell_le xs b j all h = all j (pos 0) h

pub cells_in16 : (p q : ℤ) (b d : ℕ) (xs cs : List ℤ) → length xs ≡ length cs → AreBounded b xs → AreBounded d cs
    → unsigned_abs p * b + unsigned_abs q * d < 2 ^ 15 → AllCombineIn16 p q xs cs
cells_in16 p q b d xs cs e x c within j h =
    combine_in16 p (get_or xs j (pos 0)) q (get_or cs j (pos 0)) b d (cell_le xs b j x h) (cell_le cs d j c (omega arith)) within

-- the bound of a merged row
pub IsBound-merged_by : (p q : ℤ) (b d column : ℕ) (chosen r : TableauRow) → length r.cells ≡ length chosen.cells → column < length chosen.cells
    → IsBound d chosen → IsBound b r →
    IsBound (unsigned_abs p * b + unsigned_abs q * d) (merged_by p q column chosen r)
IsBound-merged_by p q b d column chosen r same h c k =
    let long = length-combine p q r.cells chosen.cells same in
    let e = length-set (combine p q r.cells chosen.cells) column (q *ℤ chosen.denominator) in
    let turned_le = product_le q chosen.denominator d c.denominator in
    let own_le = product_le p r.denominator b k.denominator in
    record {
      denominator = omega arith;
      constant = (combines_below p r.constant q chosen.constant b d k.constant c.constant).difference;
      cells = All-from_get_or (λ x. unsigned_abs x ≤ unsigned_abs p * b + unsigned_abs q * d)
          (set (combine p q r.cells chosen.cells) column (q *ℤ chosen.denominator)) (pos 0) (λ i below.
          elim (cases_eq i column) [
            | inl at ↦ (let inside : column < length (combine p q r.cells chosen.cells) = omega arith in rw
                (at, get_or-set_same (combine p q r.cells chosen.cells) column (q *ℤ chosen.denominator) (pos 0) inside) (omega arith))
            | inr apart ↦
                rw (
                  get_or-set_other (combine p q r.cells chosen.cells) column i (q *ℤ chosen.denominator) (pos 0) apart,
                  get_or-combine p q r.cells
                      chosen.cells i same,
                )
                (combines_below p (get_or r.cells i (pos 0)) q (get_or chosen.cells i (pos 0)) b d (cell_le r.cells b i k.cells (omega arith))
                (cell_le chosen.cells d i c.cells (omega arith))).difference
          ]);
    }

-- no listed product or difference of such a merge leaves the range
pub merges_by_in_range : (p q : ℤ) (b d column : ℕ) (chosen r : TableauRow) → length r.cells ≡ length chosen.cells → IsBound d chosen → IsBound b r
    → unsigned_abs p * b + unsigned_abs q * d < 2 ^ 15 → MergesByInRange p q column chosen r
merges_by_in_range p q b d column chosen r same c k within =
    let turned_le = product_le q chosen.denominator d c.denominator in
    let own_le = product_le p r.denominator b k.denominator in
    record {
      denominator = omega arith;
      constant = combines_in_range p r.constant q chosen.constant (unsigned_abs p * b + unsigned_abs q * d)
          (combines_below p r.constant q chosen.constant b d k.constant c.constant) within;
      turned = omega arith;
      cells = λ j h _.
          combines_in_range p (get_or r.cells j (pos 0)) q (get_or chosen.cells j (pos 0)) (unsigned_abs p * b + unsigned_abs q * d)
          (combines_below p (get_or r.cells j (pos 0)) q (get_or chosen.cells j (pos 0)) b d (cell_le r.cells b j k.cells h)
          (cell_le chosen.cells d j c.cells (omega arith))) within;
    }

-- the bounds of a divided and of a turned row
pub IsBound-divided : (b g : ℕ) (r : TableauRow) → IsBound b r → IsBound b (divided g r)
IsBound-divided b g r k =
    let d = quotient_le r.denominator g in
    let n = quotient_le r.constant g in
    record {
      denominator = omega arith;
      constant = omega arith;
      cells = All-map (λ x. unsigned_abs x ≤ b) (λ z. int_div z (pos g)) r.cells
          (λ i e h. (let q = quotient_le (get_or r.cells i e) g in let s = k.cells i e h in omega arith));
    }

pub IsBound-turned : (b entering column : ℕ) (r : TableauRow) → column < length r.cells → IsBound b r → IsBound b (turned entering column r)
IsBound-turned b entering column r h k = record {
  denominator = cell_le r.cells b column k.cells h;
  constant = rw (unsigned_abs-neg r.constant) k.constant;
  cells = All-set (λ x. unsigned_abs x ≤ b) (map neg_ℤ r.cells) column r.denominator k.denominator
      (All-map (λ x. unsigned_abs x ≤ b) neg_ℤ r.cells (λ i e inside. rw (unsigned_abs-neg (get_or r.cells i e)) (k.cells i e inside)));
}

pub divisor_le : (r : TableauRow) → pos 0 <ℤ r.denominator → divisor_of r ≤ unsigned_abs r.denominator
divisor_le r h = le_of_dvd (abs_positive r.denominator h) (gcd_with_divides (r.constant ∷ r.cells) (unsigned_abs r.denominator)).0

pub factor_small : (c a : ℤ) (g : ℕ) → g ≡ factor_divisor c a → pos 0 <ℤ c → SFits w16 c → (0 < g) × (g < 2 ^ 15)
factor_small c a g e h f =
    let some = (factors_positive c a h).0 in
    let le = le_of_dvd (abs_positive c h) (IsGcd-gcd_of (unsigned_abs c) (unsigned_abs a)).0 in
    let small = small_positive c f h in
    (omega (arith, e), omega (arith, e))

factor_one : (a : ℤ) → factor_divisor (pos 1) a ≡ 1
factor_one a = dvd_antisymm (IsGcd-gcd_of 1 (unsigned_abs a)).0 (one-dvd (factor_divisor (pos 1) a))

pub first_one : (c a : ℤ) → c ≡ pos 1 → pos 1 ≡ int_div c (pos (factor_divisor c a))
first_one c a e = rw (e, factor_one a) refl

pub second_one : (c a : ℤ) → c ≡ pos 1 → a ≡ int_div a (pos (factor_divisor c a))
second_one c a e = rw (e, factor_one a) (sym (div-one a))
