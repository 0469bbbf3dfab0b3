-- rows of a block of unknowns, and of bounds
use Rattle.ta_encode.proofs.Common.{◌≡◌, ℕ, zero, suc, ℤ, pos, ◌-ℤ◌, ◌+◌, ◌-◌, ◌<◌, ◌≤◌, List, [], ◌∷◌, ◌++◌, length, map, get_or, arith, sym, ap, ◌∙◌, refl}
use Rattle.ta_encode.proofs.Common.{subst, length-append, length-map, after_zeros, before_block, coefficient, range_with_len, Bound, Side, Low, High, only_at}
use Rattle.ta_encode.proofs.Common.{side_row, bound_row, coefficient_in_sense, block_row, bound_constant, bound_sense, Sense, Plain, Opposite, Negated, ints}
use Rattle.ta_encode.proofs.Common.{map-id, at_number, length-range_with_len, Sparse}
use Rattle.ta_encode.proofs.Sparse.{sparse_all}

-- the coefficients of a block
abbrev pub block : ℕ → ℕ → Sense → List ℤ
block from to sense = map (λ k. pos 0) (range_with_len 0 from) ++ map (λ k. coefficient_in_sense sense (pos 1)) (range_with_len from (to - from))

pub block_at : (from to : ℕ) (sense : Sense) (u : ℕ) (d : ℤ) → from ≤ u → u < to → get_or (block from to sense) u d ≡ coefficient_in_sense sense (pos 1)
block_at from to sense u d low high =
    let v = u - from in
    let rest = map (λ k. coefficient_in_sense sense (pos 1)) (range_with_len from (to - from)) in
    ap (λ n. get_or (block from to sense) n d) (let e : u ≡ from + v = omega arith in e) ∙ after_zeros 0 from v rest d
    ∙ at_number (λ _. (coefficient_in_sense sense (pos 1))) from (to - from) v d (omega arith)

pub block_length : (from to : ℕ) (sense : Sense) → from ≤ to → length (block from to sense) ≡ to
block_length from to sense h =
    let zeros = map (λ (k : ℕ). pos 0) (range_with_len 0 from) in
    let rest = map (λ (k : ℕ). coefficient_in_sense sense (pos 1)) (range_with_len from (to - from)) in
    omega (
      arith,
      length-append zeros rest,
      length-map (range_with_len 0 from) (λ (k : ℕ). pos 0),
      length-map (range_with_len from (to - from))
          (λ (k : ℕ). coefficient_in_sense sense (pos 1)),
      length-range_with_len 0 from,
      length-range_with_len from (to - from),
    )

pub block_start : (from to : ℕ) (sense : Sense) (ts : List (ℕ × ℤ)) → ts ≡ [] → Sparse (λ (z : ℤ). z) (block from to sense) from ts
block_start from to sense ts e = subst (λ us. Sparse (λ (z : ℤ). z) (block from to sense) from us) (sym e) (record {
  normal = omega arith;
  coefficients = λ u b. sym (ap (λ zs. get_or zs u (pos 0)) (map-id (block from to sense))
      ∙ before_block 0 from u (map (λ k. coefficient_in_sense sense (pos 1)) (range_with_len from (to - from))) b);
})

pub block_all : (from to n : ℕ) (sense : Sense) (ts : List (ℕ × ℤ)) → from ≤ to → n ≡ to → Sparse (λ (z : ℤ). z) (block from to sense) n ts → (u : ℕ)
    → coefficient ts u ≡ get_or (block from to sense) u (pos 0)
block_all from to n sense ts h e is u =
    sparse_all (λ (z : ℤ). z) (block from to sense) n ts is (e ∙ sym (block_length from to sense h)) u
    ∙ ap (λ zs. get_or zs u (pos 0)) (map-id (block from to sense))

only_block : (k u : ℕ) (z : ℤ) → map (λ k. pos 0) (range_with_len k u) ++ z ∷ [] ≡ only_at u z
only_block k zero z = refl
only_block k (suc u) z = ap (λ zs. pos 0 ∷ zs) (only_block (k + 1) u z)

one_block : (u : ℕ) (sense : Sense) → block u (u + 1) sense ≡ only_at u (coefficient_in_sense sense (pos 1))
one_block u sense =
    ap (λ n. map (λ k. pos 0) (range_with_len 0 u) ++ map (λ (k : ℕ). coefficient_in_sense sense (pos 1)) (range_with_len u n))
    (let e : u + 1 - u ≡ suc zero = omega arith in e) ∙ only_block 0 u (coefficient_in_sense sense (pos 1))

side_block : (u : ℕ) (floor : ℤ) (side : Side) → block_row (bound_constant side floor) u (u + 1) (bound_sense side) ≡ side_row u floor side
side_block u floor Low = ap (λ zs. record { constant = floor; coefficients = zs }) (one_block u (bound_sense Low))
side_block u floor High = ap (λ zs. record { constant = (pos 0 -ℤ floor) -ℤ pos 1; coefficients = zs }) (one_block u (bound_sense High))

pub bound_block : (b : Bound) → block_row (bound_constant b.side b.floor) b.unknown (b.unknown + 1) (bound_sense b.side) ≡ bound_row b
bound_block b = side_block b.unknown b.floor b.side

pub unit_some : (sense : Sense) → coefficient_in_sense sense (pos 1) ≡ pos 0 → ⊥
unit_some Plain e = absurd (omega (arith, ints, e))
unit_some Opposite e = absurd (omega (arith, ints, e))
unit_some Negated e = absurd (omega (arith, ints, e))
