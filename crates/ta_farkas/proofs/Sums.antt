-- the sum of a column, product by product
use Rattle.ta_farkas.proofs.Common.{◌≡◌, ℕ, ◌+◌, ◌<◌, ◌≤◌, List, length, get_or, drop, sym, subst, ap, arith, ints, ℤ, pos, ◌+ℤ◌, ◌*ℤ◌, Option, Some, None}
use Rattle.ta_farkas.proofs.Common.{SomeIff, slice_get, InRange, StaysInRange, weighted, part_in, entry, column_sum, ColumnStays, IsAdded, System, at_drop_more}
use Rattle.ta_farkas.proofs.Common.{drop_more}
use Rattle.std.proofs.Math.ListN.{drop_of_length-le}

-- the product of a place
abbrev pub product_at : (ℕ → ℤ) → List (ℕ × ℤ) → ℕ → ℤ
product_at number ts i = (get_or ts i (0, pos 0)).1 *ℤ number (get_or ts i (0, pos 0)).0

weighted-at : {R : Type 0} (part : Option R → ℤ) (rows : List R) (ts : List (ℕ × ℤ)) (i : ℕ) → i < length ts
    → weighted part rows (drop i ts) ≡ (product_at (λ k. part (slice_get rows k)) ts i +ℤ weighted part rows (drop (i + 1) ts))
unfolding weighted
weighted-at part rows ts i h = at_drop_more (weighted part rows) ts i (0, pos 0) h

weighted-end : {R : Type 0} (part : Option R → ℤ) (rows : List R) (ts : List (ℕ × ℤ)) (i : ℕ) → length ts ≤ i → weighted part rows (drop i ts) ≡ pos 0
unfolding weighted
weighted-end part rows ts i h = ap (weighted part rows) (drop_of_length-le ts h)

stays-out : (number : ℕ → ℤ) (before : ℤ) (ts : List (ℕ × ℤ)) (i : ℕ) → i < length ts → StaysInRange number before (drop i ts)
    → InRange (product_at number ts i) × InRange (before +ℤ product_at number ts i) × StaysInRange number (before +ℤ product_at number ts i) (drop (i + 1) ts)
stays-out number before ts i h s = subst (StaysInRange number before) (drop_more ts i (0, pos 0) h) s

stays-in : (number : ℕ → ℤ) (before : ℤ) (ts : List (ℕ × ℤ)) (i : ℕ) → i < length ts
    → InRange (product_at number ts i) × InRange (before +ℤ product_at number ts i) → StaysInRange number (before +ℤ product_at number ts i) (drop (i + 1) ts)
    → StaysInRange number before (drop i ts)
stays-in number before ts i h p rest = subst (StaysInRange number before) (sym (drop_more ts i (0, pos 0) h)) (p.0, p.1, rest)

stays-end : (number : ℕ → ℤ) (before : ℤ) (ts : List (ℕ × ℤ)) (i : ℕ) → length ts ≤ i → StaysInRange number before (drop i ts)
stays-end number before ts i h = subst (StaysInRange number before) (sym (drop_of_length-le ts h)) tt

-- the sum of a column over the first i places, which stayed in range so far
pub record SumsTo (s : System) (ts : List (ℕ × ℤ)) (column i : ℕ) (sum : ℤ) : Type 0 where
  pub fits : InRange sum
  pub value : column_sum s ts column ≡ (sum +ℤ weighted (part_in s.unknowns column) s.rows (drop i ts))
  pub forth : ColumnStays s ts column → StaysInRange (entry s column) sum (drop i ts)
  pub back : StaysInRange (entry s column) sum (drop i ts) → ColumnStays s ts column

-- the state of a column after the first i places: its sum, or none if it left the range
abbrev pub Summed : System → List (ℕ × ℤ) → ℕ → ℕ → Option ℤ → Type 0
Summed s ts column i None = ColumnStays s ts column → ⊥
Summed s ts column i (Some sum) = SumsTo s ts column i sum

pub summed-start : (s : System) (ts : List (ℕ × ℤ)) (column : ℕ) → Summed s ts column 0 (Some (pos 0))
summed-start s ts column = record {
  fits = omega (arith, ints);
  value = omega (arith, ints);
  forth = λ all. all;
  back = λ all. all;
}

summed-more : (s : System) (ts : List (ℕ × ℤ)) (column i : ℕ) (sum : ℤ) (next : Option ℤ) → i < length ts → SumsTo s ts column i sum
    → (let product = product_at (entry s column) ts i in SomeIff next (InRange product × InRange (sum +ℤ product)) (sum +ℤ product))
    → Summed s ts column (i + 1) next
summed-more s ts column i sum None h m added = λ all. (let out = stays-out (entry s column) sum ts i h (m.forth all) in added (out.0, out.1))
summed-more s ts column i sum (Some next) h m added = rw added.1 record {
  fits = added.0.1;
  value = omega (arith, ints, m.value, weighted-at (part_in s.unknowns column) s.rows ts i h);
  forth = λ all. (stays-out (entry s column) sum ts i h (m.forth all)).2;
  back = λ rest. m.back (stays-in (entry s column) sum ts i h added.0 rest);
}

pub summed-next : (s : System) (ts : List (ℕ × ℤ)) (column i : ℕ) (old next : Option ℤ) → i < length ts → Summed s ts column i old
    → IsAdded old (product_at (entry s column) ts i) next → Summed s ts column (i + 1) next
summed-next s ts column i None next h m added = rw added m
summed-next s ts column i (Some sum) next h m added = summed-more s ts column i sum next h m (added m.fits)

pub summed-end : (s : System) (ts : List (ℕ × ℤ)) (column i : ℕ) (sum : Option ℤ) → length ts ≤ i → Summed s ts column i sum
    → SomeIff sum (ColumnStays s ts column) (column_sum s ts column)
summed-end s ts column i None h m = m
summed-end s ts column i (Some sum) h m =
    let rest = weighted-end (part_in s.unknowns column) s.rows ts i h in
    (m.back (stays-end (entry s column) sum ts i h), omega (arith, ints, m.value, rest))
