-- bounds of a modest dictionary's rows
use Rattle.ta_revised.proofs.Common.{◌≡◌, inl, inr, ℕ, zero, suc, ◌<◌, ◌≤◌, ◌+◌, ◌-◌, ◌*◌, ◌^◌, List, [], ◌∷◌, length, get_or, replicate, arith, refl, sym, ap}
use Rattle.ta_revised.proofs.Common.{◌∙◌, subst, ℤ, pos, neg_ℤ, ◌<ℤ◌, ◌-ℤ◌, ◌*ℤ◌, unsigned_abs, int_div, slice_get, IsSomeAnd, ◌∣◌, ints, cases_lt}
use Rattle.ta_revised.proofs.Common.{length-replicate, get_or_past, All-replicate, All-set, All-from_get_or, mul-le-mul, mul-le-mul_left, one-dvd, product_le}
use Rattle.ta_revised.proofs.Common.{quotient_le, abs_minus, abs_sum, unsigned_abs-neg, InRange, AllBelow, IsNormal, Row, System, IsNormal-le, Tableau}
use Rattle.ta_revised.proofs.Common.{TableauRow, no_row, row_of, basic_of, cell_of, combine, divisor_of, factor_divisor, IsDictionaryRow, IsAssignment}
use Rattle.ta_revised.proofs.Common.{DictionaryOf, IsBound, AreBounded, CombinesInRange, MergesByInRange, MergesInRange, length-combine, get_or-combine}
use Rattle.ta_revised.proofs.Common.{unit_row, IsScale, plus_row, factor_of, plus_terms, scaled_constant, slack_sum, slack_row_over, weight_of, IsModestRow}
use Rattle.ta_revised.proofs.Common.{IsRevised, RowsAreRevised}
use Rattle.std.proofs.Math.Nat.{mul-le-mul_right}
use Rattle.ta_base.proofs.Integers.{abs_natural}
use Rattle.ta_revised.proofs.Bounded.{CombinesBelow, combines_below, IsBound-divided}
use Rattle.ta_revised.specs.Modest.{AreModestRows, IsModest}
use Rattle.ta_revised.specs.Laws.{ModestPivotsStay}
use Rattle.ta_revised.proofs.Units.{IsDictionaryRow-unit}

-- ---- merges of rows with numbers up to 2^62

-- a cell that is there is bounded, and one that isn't is 0
pub bounded_at : (b : ℕ) (xs : List ℤ) (j : ℕ) → AreBounded b xs → unsigned_abs (get_or xs j (pos 0)) ≤ b
bounded_at b xs j all =
    elim (cases_lt j (length xs)) [
      | inl inside ↦ all j (pos 0) inside
      | inr past ↦ rw (get_or_past xs j (pos 0) past) (omega arith)
    ]

-- a sum of two products of numbers up to 2^62
sum_below : (p q : ℕ) → p ≤ 2 ^ 62 → q ≤ 2 ^ 62 → p * 2 ^ 62 + q * 2 ^ 62 < 2 ^ 127
sum_below p q h k = omega arith

in_range_of : (z : ℤ) (t : ℕ) → unsigned_abs z ≤ t → t < 2 ^ 127 → InRange z
in_range_of z t h k = omega arith

combines_in_range : (p a q c : ℤ) (t : ℕ) → CombinesBelow p a q c t → t < 2 ^ 127 → CombinesInRange p a q c
combines_in_range p a q c t h k = record {
  left = in_range_of (p *ℤ a) t h.left k;
  right = in_range_of (q *ℤ c) t h.right k;
  difference = in_range_of (p *ℤ a -ℤ q *ℤ c) t h.difference k;
}

merges_by_in_range : (p q : ℤ) (b column : ℕ) (chosen r : TableauRow) → IsBound b chosen → IsBound b r → unsigned_abs p * b + unsigned_abs q * b < 2 ^ 127
    → MergesByInRange p q column chosen r
merges_by_in_range p q b column chosen r c k within = record {
  denominator = (combines_in_range p r.denominator q chosen.denominator (unsigned_abs p * b + unsigned_abs q * b)
      (combines_below p r.denominator q chosen.denominator b b k.denominator c.denominator) within).left;
  constant = combines_in_range p r.constant q chosen.constant (unsigned_abs p * b + unsigned_abs q * b)
      (combines_below p r.constant q chosen.constant b b k.constant c.constant) within;
  turned = (combines_in_range p r.denominator q chosen.denominator (unsigned_abs p * b + unsigned_abs q * b)
      (combines_below p r.denominator q chosen.denominator b b k.denominator c.denominator) within).right;
  cells = λ j h _.
      combines_in_range p (get_or r.cells j (pos 0)) q (get_or chosen.cells j (pos 0)) (unsigned_abs p * b + unsigned_abs q * b)
      (combines_below p (get_or r.cells j (pos 0)) q (get_or chosen.cells j (pos 0)) b b (bounded_at b r.cells j k.cells)
      (bounded_at b chosen.cells j c.cells)) within;
}

-- rows with numbers up to 2^62 merge in 128 bits
pub merges_in_range : (column : ℕ) (chosen r : TableauRow) → IsBound (2 ^ 62) chosen → IsBound (2 ^ 62) r → MergesInRange column chosen r
merges_in_range column chosen r c k apart =
    let g = factor_divisor (cell_of chosen column) (cell_of r column) in
    let first : unsigned_abs (int_div (cell_of chosen column) (pos g)) ≤ 2 ^ 62 =
    (let d = quotient_le (cell_of chosen column) g in let e = bounded_at (2 ^ 62) chosen.cells column c.cells in omega arith) in
    let second : unsigned_abs (int_div (cell_of r column) (pos g)) ≤ 2 ^ 62 =
    (let d = quotient_le (cell_of r column) g in let e = bounded_at (2 ^ 62) r.cells column k.cells in omega arith) in
    merges_by_in_range (int_div (cell_of chosen column) (pos g)) (int_div (cell_of r column) (pos g)) (2 ^ 62) column chosen r c k
    (sum_below (unsigned_abs (int_div (cell_of chosen column) (pos g))) (unsigned_abs (int_div (cell_of r column) (pos g))) first second)

-- ---- the sum of the unknowns' rows

-- the constant and the cells of a row are bounded
pub record IsNumbers (b columns : ℕ) (r : TableauRow) : Type 0 where
  pub constant : unsigned_abs r.constant ≤ b
  pub cells : AreBounded b r.cells
  pub long : length r.cells ≡ columns

numbers-plus_row : (f : ℤ) (b d columns : ℕ) (r a : TableauRow) → IsNumbers b columns a → IsNumbers d columns r
    → IsNumbers (b + unsigned_abs f * d) columns (plus_row f r a)
numbers-plus_row f b d columns r a k h =
    let same : length a.cells ≡ length r.cells = k.long ∙ sym h.long in
    let e = unsigned_abs-neg f in
    record {
      constant = abs_sum a.constant (f *ℤ r.constant) b (unsigned_abs f * d) k.constant (product_le f r.constant d h.constant);
      cells = All-from_get_or (λ x. unsigned_abs x ≤ b + unsigned_abs f * d) (combine (pos 1) (neg_ℤ f) a.cells r.cells) (pos 0) (λ i below.
          rw (get_or-combine (pos 1) (neg_ℤ f) a.cells r.cells i same)
          (abs_minus (pos 1 *ℤ get_or a.cells i (pos 0)) (neg_ℤ f *ℤ get_or r.cells i (pos 0)) b (unsigned_abs f * d)
          (let x = bounded_at b a.cells i k.cells in omega (arith, ints))
          (subst (λ (m : ℕ). unsigned_abs (neg_ℤ f *ℤ get_or r.cells i (pos 0)) ≤ m * d) e
          (product_le (neg_ℤ f) (get_or r.cells i (pos 0)) d (bounded_at d r.cells i h.cells)))));
      long = length-combine (pos 1) (neg_ℤ f) a.cells r.cells same ∙ k.long;
    }

numbers-more : (b d columns : ℕ) (r : TableauRow) → b ≤ d → IsNumbers b columns r → IsNumbers d columns r
numbers-more b d columns r le k = record {
  constant = omega arith;
  cells = λ i e h. (let s = k.cells i e h in omega arith);
  long = k.long;
}

-- how great a factor is
factor_le : (scale : ℕ) (k : ℤ) (r : TableauRow) → pos 0 <ℤ r.denominator → unsigned_abs (factor_of scale k r) ≤ unsigned_abs k * scale
factor_le scale k r positive =
    product_le k (int_div (pos scale) r.denominator) scale
    (subst (λ (z : ℤ). unsigned_abs (int_div (pos scale) z) ≤ scale) (abs_natural r.denominator (omega (arith, ints)))
    (quotient_le (pos scale) (unsigned_abs r.denominator)))

-- what is known of the unknowns' rows
pub record AreNumbers (d columns : ℕ) (rs : List TableauRow) : Type 0 where
  pub positive : (u : ℕ) → u < length rs → pos 0 <ℤ (get_or rs u no_row).denominator
  pub numbers : (u : ℕ) → u < length rs → IsNumbers d columns (get_or rs u no_row)

sum_le : (b f w v scale d : ℕ) → f ≤ w * scale → (b + f * d) + v * (scale * d) ≤ b + (w + v) * (scale * d)
sum_le b f w v scale d h = let e = mul-le-mul_right d h in let a : (w * scale) * d ≡ w * (scale * d) = omega arith in omega arith

numbers-plus_terms : (scale d b columns low : ℕ) (rs : List TableauRow) (a : TableauRow) (ts : List (ℕ × ℤ)) → AreNumbers d columns rs
    → IsNormal low (length rs) ts → IsNumbers b columns a → IsNumbers (b + weight_of ts * (scale * d)) columns (plus_terms scale rs a ts)
numbers-plus_terms scale d b columns low rs a [] all normal k = numbers-more b (b + 0 * (scale * d)) columns a (omega arith) k
numbers-plus_terms scale d b columns low rs a (t ∷ ts) all normal k =
    let u : t.0 < length rs = (let h = IsNormal-le (t.0 + 1) (length rs) ts normal.2 in omega arith) in
    let r = get_or rs t.0 no_row in
    let f = factor_of scale t.1 r in
    let more = numbers-plus_terms scale d (b + unsigned_abs f * d) columns (t.0 + 1) rs (plus_row f r a) ts all normal.2
    (numbers-plus_row f b d columns r a k (all.numbers t.0 u)) in
    numbers-more ((b + unsigned_abs f * d) + weight_of ts * (scale * d)) (b + (unsigned_abs t.1 + weight_of ts) * (scale * d)) columns
    (plus_terms scale rs (plus_row f r a) ts)
    (sum_le b (unsigned_abs f) (unsigned_abs t.1) (weight_of ts) scale d (factor_le scale t.1 r (all.positive t.0 u))) more

denominator-plus_terms : (scale : ℕ) (rs : List TableauRow) (a : TableauRow) (ts : List (ℕ × ℤ)) → (plus_terms scale rs a ts).denominator ≡ a.denominator
denominator-plus_terms scale rs a [] = refl
denominator-plus_terms scale rs a (t ∷ ts) =
    denominator-plus_terms scale rs (plus_row (factor_of scale t.1 (get_or rs t.0 no_row)) (get_or rs t.0 no_row) a) ts

numbers-first : (scale d columns slack : ℕ) (c : ℤ) → 0 < d → IsNumbers (unsigned_abs c * (scale * d)) columns (scaled_constant scale columns slack c)
numbers-first scale d columns slack c some = record {
  constant = constant_le scale d c some;
  cells = All-replicate (λ x. unsigned_abs x ≤ unsigned_abs c * (scale * d)) columns (pos 0) (omega arith);
  long = length-replicate columns (pos 0);
}
  where
    constant_le : (scale d : ℕ) (c : ℤ) → 0 < d → unsigned_abs (pos scale *ℤ c) ≤ unsigned_abs c * (scale * d)
    constant_le scale d c some =
        let e = product_le (pos scale) c (unsigned_abs c) (omega arith) in
        let m : scale * 1 ≤ scale * d = mul-le-mul_left scale (omega arith) in
        let x = mul-le-mul_left (unsigned_abs c) m in
        let y : unsigned_abs c * (scale * 1) ≡ scale * unsigned_abs c = omega arith in
        omega arith

weights : (c w scale : ℕ) → c + w ≤ 2 ^ 16 → scale < 2 ^ 15 → c * (scale * 2 ^ 31) + w * (scale * 2 ^ 31) ≤ 2 ^ 62
weights c w scale h k =
    let m : scale * 2 ^ 31 ≤ 2 ^ 46 = omega arith in
    let x = mul-le-mul h m in
    let y : (c + w) * (scale * 2 ^ 31) ≡ c * (scale * 2 ^ 31) + w * (scale * 2 ^ 31) = omega arith in
    omega arith

-- the row of a modest row's slack has numbers up to 2^62
pub slack_bound : (scale columns slack low : ℕ) (rs : List TableauRow) (r : Row) → scale < 2 ^ 15 → AreNumbers (2 ^ 31) columns rs
    → IsNormal low (length rs) r.form.terms → IsModestRow r → IsBound (2 ^ 62) (slack_row_over scale columns rs slack r)
slack_bound scale columns slack low rs r few all normal modest =
    let first = numbers-first scale (2 ^ 31) columns slack r.form.constant (omega arith) in
    let k = numbers-plus_terms scale (2 ^ 31) (unsigned_abs r.form.constant * (scale * 2 ^ 31)) columns low rs
    (scaled_constant scale columns slack r.form.constant) r.form.terms all normal first in
    let w = weights (unsigned_abs r.form.constant) (weight_of r.form.terms) scale modest few in
    let n = numbers-more _ (2 ^ 62) columns (slack_sum scale columns rs slack r) w k in
    IsBound-divided (2 ^ 62) (divisor_of (slack_sum scale columns rs slack r)) (slack_sum scale columns rs slack r) record {
      denominator = rw (denominator-plus_terms scale rs (scaled_constant scale columns slack r.form.constant) r.form.terms) (omega arith);
      constant = n.constant;
      cells = n.cells;
    }

-- ---- the unknowns' rows of a modest dictionary

-- a list of so many, each of which is as wanted
pub chosen_rows : (n : ℕ) (P : ℕ → TableauRow → Type 0) → ((u : ℕ) → u < n → (r : TableauRow) × P u r)
    → (rs : List TableauRow) × (length rs ≡ n) × ((u : ℕ) → u < n → P u (get_or rs u no_row))
chosen_rows zero P f = ([], refl, λ u h. absurd (omega arith))
chosen_rows (suc n) P f =
    let first = f 0 (omega arith) in
    let rest = chosen_rows n (λ u r. P (suc u) r) (λ u h. f (suc u) (omega arith)) in
    (first.0 ∷ rest.0, ap suc rest.1, at first rest)
  where
    at : (first : (r : TableauRow) × P 0 r) (rest : (rs : List TableauRow) × (length rs ≡ n) × ((u : ℕ) → u < n → P (suc u) (get_or rs u no_row)))
        → (u : ℕ) → u < suc n → P u (get_or (first.0 ∷ rest.0) u no_row)
    at first rest zero h = first.1
    at first rest (suc u) h = rest.2 u (omega arith)

-- the numbers of a unit row
pub unit_bound : (n u j : ℕ) → IsBound (2 ^ 31) (unit_row n u j)
unit_bound n u j = record {
  denominator = omega arith;
  constant = omega arith;
  cells = All-set (λ x. unsigned_abs x ≤ 2 ^ 31) (replicate n (pos 0)) j (pos 1) (omega arith)
      (All-replicate (λ x. unsigned_abs x ≤ 2 ^ 31) n (pos 0) (omega arith));
}

-- what is known of an unknown's row
pub record IsKnown (s : System) (t : Tableau) (scale u : ℕ) (r : TableauRow) : Type 0 where
  pub row : IsDictionaryRow (IsAssignment s) t.non_basic r
  pub named : r.basic ≡ u
  pub multiple : unsigned_abs r.denominator ∣ scale
  pub bounded : IsBound (2 ^ 31) r

pub known : (s : System) (t : Tableau) → DictionaryOf s t → (m : IsModest s.unknowns t) → (u : ℕ) → u < s.unknowns → (r : TableauRow) × IsKnown s t m.scale u r
known s t d m u below =
    elim (d.basis.cover u (omega arith)) [
      | inl b ↦
          let small : basic_of t b.0 < s.unknowns = (let e = b.2 in omega arith) in
          (row_of t b.0, record { row = d.rows b.0 b.1; named = b.2; multiple = m.multiple b.0 b.1 small; bounded = m.small b.0 b.1 small })
      | inr c ↦
          let n = length t.non_basic in (
            unit_row n u c.0,
            record {
              row = IsDictionaryRow-unit (IsAssignment s) t.non_basic u c.0 c.1 c.2;
              named = refl;
              multiple = one-dvd m.scale;
              bounded = unit_bound n u c.0;
            },
          )
    ]

-- the unknowns' rows of a dictionary with small numbers
pub modest_rows : (s : System) (t : Tableau) → DictionaryOf s t → (m : IsModest s.unknowns t)
    → (rs : List TableauRow) × (length rs ≡ s.unknowns) × ((u : ℕ) → u < s.unknowns → IsKnown s t m.scale u (get_or rs u no_row))
modest_rows s t d m = chosen_rows s.unknowns (IsKnown s t m.scale) (known s t d m)

-- they are revised rows, with a scale and small numbers
pub record IsModestly (s : System) (t : Tableau) (scale : ℕ) (rs : List TableauRow) : Type 0 where
  pub revised : IsRevised s t record { non_basic = t.non_basic; rows = rs }
  pub scaled : IsScale scale rs
  pub numbers : AreNumbers (2 ^ 31) (length t.non_basic) rs

pub modestly : (s : System) (t : Tableau) → DictionaryOf s t → (m : IsModest s.unknowns t) → (rs : List TableauRow) × IsModestly s t m.scale rs
modestly s t d m =
    let all = modest_rows s t d m in
    let count : length all.0 ≡ s.unknowns = all.1 in
    let each = λ (u : ℕ) (h : u < length all.0). all.2 u (omega arith) in (
      all.0,
      record {
        revised = record {
          dictionary = d;
          non_basic = refl;
          count = count;
          rows = λ u h. (all.2 u h).row;
          named = λ u h. (all.2 u h).named;
        };
        scaled = record { positive = m.positive; few = m.few; multiple = λ u h. (each u h).multiple };
        numbers = record {
          positive = λ u h. (each u h).row.positive;
          numbers = λ u h. record { constant = (each u h).bounded.constant; cells = (each u h).bounded.cells; long = (each u h).row.long };
        };
      },
    )

-- the row of a system at a place, with what all of them keep
row_there : (n : ℕ) (rows : List Row) (k : ℕ) (P : Row → Type 0) → AllBelow n rows → AreModestRows rows → IsSomeAnd (slice_get rows k) P
    → (r : Row) × P r × IsModestRow r × IsNormal 0 n r.form.terms
row_there n [] k P below modest h = absurd h
row_there n (r ∷ rs) zero P below modest h = (r, h, modest 0 r (omega arith), below.0)
row_there n (r ∷ rs) (suc k) P below modest h = row_there n rs k P below.1 (λ i e inside. modest (suc i) e (omega arith)) h

pub bound_more : (b d : ℕ) (r : TableauRow) → b ≤ d → IsBound b r → IsBound d r
bound_more b d r le k = record {
  denominator = (let e = k.denominator in omega arith);
  constant = (let e = k.constant in omega arith);
  cells = λ i e h. (let s = k.cells i e h in omega arith);
}

-- no number of a modest dictionary is above 2^62
pub modest_bound : RowsAreRevised → (s : System) (t : Tableau) → DictionaryOf s t → IsModest s.unknowns t → AreModestRows s.rows
    → (i : ℕ) → i < length t.rows → IsBound (2 ^ 62) (row_of t i)
modest_bound law s t d m modest i h =
    elim (cases_lt (basic_of t i) s.unknowns) [
      | inl unknown ↦ bound_more (2 ^ 31) (2 ^ 62) (row_of t i) (omega arith) (m.small i h unknown)
      | inr slack ↦
          let all = modestly s t d m in
          let rs = all.0 in
          let k = basic_of t i - s.unknowns in
          let columns = length t.non_basic in
          let e : basic_of t i ≡ s.unknowns + k = omega arith in
          let w = row_there s.unknowns s.rows k (λ r. row_of t i ≡ slack_row_over m.scale columns rs (s.unknowns + k) r) s.within modest
          (law.slack s t record { non_basic = t.non_basic; rows = rs } m.scale i k all.1.revised all.1.scaled h e) in
          subst (IsBound (2 ^ 62)) (sym w.1)
          (slack_bound m.scale columns (s.unknowns + k) 0 rs w.0 m.few all.1.numbers
          (subst (λ (n : ℕ). IsNormal 0 n w.0.form.terms) (sym all.1.revised.count) w.3) w.2)
    ]

-- a pivot on a modest dictionary stays in range
pub modest_stay : RowsAreRevised → ModestPivotsStay
modest_stay law s t row column d m modest h k positive i less inside apart =
    merges_in_range column (row_of t row) (row_of t i) (modest_bound law s t d m modest row h) (modest_bound law s t d m modest i inside)
