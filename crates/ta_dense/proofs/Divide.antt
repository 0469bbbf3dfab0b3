use Rattle.ta_dense.proofs.Common.{◌≡◌, ℕ, ◌<◌, List, [], ◌∷◌, map, arith, ap, ℤ, pos, ◌+ℤ◌, ◌*ℤ◌, int_div, ◌∣◌, one-dvd, dvd_refl, dvd_trans, dvd_antisymm}
use Rattle.ta_dense.proofs.Common.{ints, div_exact, divided_arith, expand, mul_cancel, IsGcd-gcd_of, gcd_of, TableauRow, divided, gcd_with, dot, EquationHolds}
use Rattle.ta_dense.proofs.Common.{AllDivided, unsigned_abs}

pub gcd_with_divides : (xs : List ℤ) (g : ℕ) → (gcd_with g xs ∣ g) × AllDivided (gcd_with g xs) xs
gcd_with_divides [] g = (dvd_refl g, tt)
gcd_with_divides (x ∷ xs) g =
    let rest = gcd_with_divides xs (gcd_of g (unsigned_abs x)) in
    let this = IsGcd-gcd_of g (unsigned_abs x) in
    (dvd_trans (gcd_with (gcd_of g (unsigned_abs x)) xs) rest.0 this.0, (dvd_trans (gcd_with (gcd_of g (unsigned_abs x)) xs) rest.0 this.1, rest.1))

pub gcd_with-one : (xs : List ℤ) → gcd_with 1 xs ≡ 1
gcd_with-one xs = dvd_antisymm (gcd_with_divides xs 1).0 (one-dvd (gcd_with 1 xs))

dot-divided : (g : ℕ) (cs : List ℤ) (us : List ℕ) (value : ℕ → ℤ) → AllDivided g cs →
    pos g *ℤ dot (map (λ z. int_div z (pos g)) cs) us value ≡ dot cs us value
dot-divided g [] us value h = omega (arith, ints)
dot-divided g (c ∷ cs) [] value h = omega (arith, ints)
dot-divided g (c ∷ cs) (u ∷ us) value h =
    let e = simp expand at (ap (λ (z : ℤ). z *ℤ value u) (div_exact g c h.0)) in
    simp expand (omega (arith, ints, e, dot-divided g cs us value h.1))

-- a row divided by a number that divides each of its numbers
pub Holds-divided : (us : List ℕ) (g : ℕ) (r : TableauRow) (scale : ℤ) (value : ℕ → ℤ) → 0 < g →
    g ∣ unsigned_abs r.denominator → AllDivided g (r.constant ∷ r.cells) → EquationHolds us r scale value → EquationHolds us (divided g r) scale value
Holds-divided us g r scale value some first others h =
    mul_cancel g (int_div r.denominator (pos g) *ℤ value r.basic) (scale *ℤ int_div r.constant (pos g) +ℤ dot (map (λ z. int_div z (pos g)) r.cells) us value)
    some
    (divided_arith (pos g) r.denominator (value r.basic) scale r.constant (dot r.cells us value) (int_div r.denominator (pos g)) (int_div r.constant (pos g))
    (dot (map (λ z. int_div z (pos g)) r.cells) us value) h (div_exact g r.denominator first) (div_exact g r.constant others.0)
    (dot-divided g r.cells us value others.1))
