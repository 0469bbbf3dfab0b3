use Rattle.ta_dense.proofs.Common.{◌≡◌, inl, inr, ℕ, zero, suc, ◌*◌, ◌<◌, List, [], ◌∷◌, length, map, set, get_or, arith, subst, ℤ, pos, neg_ℤ, ◌<ℤ◌}
use Rattle.ta_dense.proofs.Common.{get_or-set_same, int_div, ◌∣◌, length-map, length-set, dvd_of_mul-dvd-mul_left, eq-one_of_dvd-one, dvd_times}
use Rattle.ta_dense.proofs.Common.{unsigned_abs-neg, IsGcd-gcd_of, gcd_of, IsPrimitive, AllDivided, TableauRow, cell_of, turned, merged, reduced, divisor_of}
use Rattle.ta_dense.proofs.Common.{gcd_with, unsigned_abs}
use Rattle.ta_dense.proofs.Divide.{gcd_with_divides}
use Rattle.ta_dense.proofs.MergedRow.{merged_cases, merged_with}
use Rattle.ta_dense.proofs.ReduceFacts.{divisor_positive}

gcd_with_greatest : (k g : ℕ) (xs : List ℤ) → k ∣ g → AllDivided k xs → k ∣ gcd_with g xs
gcd_with_greatest k g [] h all = h
gcd_with_greatest k g (x ∷ xs) h all = gcd_with_greatest k (gcd_of g (unsigned_abs x)) xs ((IsGcd-gcd_of g (unsigned_abs x)).2 k h all.0) all.1

pub primitive_divisor : (r : TableauRow) → IsPrimitive r → divisor_of r ≡ 1
primitive_divisor r h =
    let d = gcd_with_divides (r.constant ∷ r.cells) (unsigned_abs r.denominator) in
    h (divisor_of r) record { denominator = d.0; constant = d.1.0; cells = d.1.1 }

all_times : (g k : ℕ) (zs : List ℤ) → AllDivided g zs → AllDivided k (map (λ z. int_div z (pos g)) zs) → AllDivided (g * k) zs
all_times g k [] h d = tt
all_times g k (z ∷ zs) h d = (dvd_times g k z h.0 d.0, all_times g k zs h.1 d.1)

pub IsPrimitive-reduced : (r : TableauRow) → pos 0 <ℤ r.denominator → IsPrimitive (reduced r)
IsPrimitive-reduced r positive k d =
    let g = divisor_of r in
    let all = gcd_with_divides (r.constant ∷ r.cells) (unsigned_abs r.denominator) in
    let whole = gcd_with_greatest (g * k) (unsigned_abs r.denominator) (r.constant ∷ r.cells) (dvd_times g k r.denominator all.0 d.denominator)
    (dvd_times g k r.constant all.1.0 d.constant, all_times g k r.cells all.1.1 d.cells) in
    let e : divisor_of r ≡ divisor_of r * 1 = omega arith in
    eq-one_of_dvd-one (dvd_of_mul-dvd-mul_left k (divisor_positive r positive) (subst (λ (m : ℕ). g * k ∣ m) e whole))

unnegated : (j : ℕ) (xs : List ℤ) → AllDivided j (map neg_ℤ xs) → AllDivided j xs
unnegated j [] a = tt
unnegated j (x ∷ xs) a = (subst (λ (m : ℕ). j ∣ m) (unsigned_abs-neg x) a.0, unnegated j xs a.1)

all_unturned : (k : ℕ) (cs : List ℤ) (column : ℕ) (y : ℤ) → k ∣ unsigned_abs (get_or cs column (pos 0)) → AllDivided k (set (map neg_ℤ cs) column y)
    → AllDivided k cs
all_unturned k [] column y h d = tt
all_unturned k (c ∷ cs) zero y h d = (h, unnegated k cs d.1)
all_unturned k (c ∷ cs) (suc column) y h d = (subst (λ (m : ℕ). k ∣ m) (unsigned_abs-neg c) d.0, all_unturned k cs column y h d.1)

divides_at : (k : ℕ) (cs : List ℤ) (i : ℕ) → i < length cs → AllDivided k cs → k ∣ unsigned_abs (get_or cs i (pos 0))
divides_at k [] i h a = absurd (omega arith)
divides_at k (c ∷ cs) zero h a = a.0
divides_at k (c ∷ cs) (suc i) h a = divides_at k cs i (omega arith) a.1

pub IsPrimitive-turned : (column entering : ℕ) (r : TableauRow) → column < length r.cells → IsPrimitive r → IsPrimitive (turned entering column r)
IsPrimitive-turned column entering r h p k d =
    let long = length-map r.cells neg_ℤ in
    let wide = length-set (map neg_ℤ r.cells) column r.denominator in
    let at = divides_at k (set (map neg_ℤ r.cells) column r.denominator) column (omega arith) d.cells in
    let inside : column < length (map neg_ℤ r.cells) = omega arith in
    p k record {
      denominator = subst (λ (z : ℤ). k ∣ unsigned_abs z) (get_or-set_same (map neg_ℤ r.cells) column r.denominator (pos 0) inside) at;
      constant = subst (λ (m : ℕ). k ∣ m) (unsigned_abs-neg r.constant) d.constant;
      cells = all_unturned k r.cells column r.denominator d.denominator d.cells;
    }

pub IsPrimitive-merged : (column : ℕ) (chosen r : TableauRow) → pos 0 <ℤ (merged_with (cell_of r column) column chosen r).denominator → IsPrimitive r
    → IsPrimitive (merged column chosen r)
IsPrimitive-merged column chosen r positive p =
    elim (merged_cases column chosen r) [
      | inl stays ↦ rw stays.1 p
      | inr is ↦ rw is (IsPrimitive-reduced (merged_with (cell_of r column) column chosen r) positive)
    ]
