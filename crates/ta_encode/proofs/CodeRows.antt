-- leaves and solutions of a system of the code are those of the word
use Rattle.ta_encode.proofs.Common.{◌≡◌, ℕ, zero, suc, ℤ, pos, ◌*ℤ◌, ◌≤ℤ◌, ◌<ℤ◌, List, [], ◌∷◌, map, length, slice_get, get_or, Option, None, Some, arith, sym}
use Rattle.ta_encode.proofs.Common.{ap, ◌∙◌, refl, subst, All, ints, range_sum-same, coefficient, IsNormal, AllBelow, value_of, RowHolds, Solves, Row, System}
use Rattle.ta_encode.proofs.Common.{Automaton, Pattern, LinearRow, bound_row, word_rows, row_value, AllHold, SolvesWord, Pending, Search, SolvesAt}
use Rattle.ta_encode.proofs.Common.{bounded_rows, pattern_search, linear_coefficient_in, linear_constant_in, IsLeaf, IsRowOf, AreRowsOf, SystemAt, Element}
use Rattle.ta_linear.specs.Leaf.{weighted, AreMultipliers, LeafOf, coefficient_in as code_coefficient, constant_in as code_constant}
use Rattle.ta_linear.proofs.RangeSum.{terms_value-sum}
use Rattle.ta_encode.proofs.Moments.{AllHold-append, AllHold-left}
use Rattle.ta_encode.proofs.RowSums.{value_at, combine-range}

-- what two rows have in common, the rows of the code and of the word have at each number
rows_same : (code : Option Row → ℤ) (word : Option LinearRow → ℤ) → code None ≡ word None
    → ((l : LinearRow) (r : Row) → IsRowOf l r → code (Some r) ≡ word (Some l)) → (ls : List LinearRow) (rs : List Row) (k : ℕ) → AreRowsOf ls rs
    → code (slice_get rs k) ≡ word (slice_get ls k)
rows_same code word none some [] [] k h = none
rows_same code word none some (l ∷ ls) (r ∷ rs) zero h = some l r h.0
rows_same code word none some (l ∷ ls) (r ∷ rs) (suc k) h = rows_same code word none some ls rs k h.1
rows_same code word none some [] (r ∷ rs) k h = absurd h
rows_same code word none some (l ∷ ls) [] k h = absurd h

pub coefficient_same : (u : ℕ) (ls : List LinearRow) (rs : List Row) (k : ℕ) → AreRowsOf ls rs
    → code_coefficient u (slice_get rs k) ≡ linear_coefficient_in u (slice_get ls k)
coefficient_same u = rows_same (code_coefficient u) (linear_coefficient_in u) refl (λ l r is. is.coefficients u)

pub constant_same : (ls : List LinearRow) (rs : List Row) (k : ℕ) → AreRowsOf ls rs → code_constant (slice_get rs k) ≡ linear_constant_in (slice_get ls k)
constant_same = rows_same code_constant linear_constant_in refl (λ l r is. is.constant)

-- as many rows
pub rows_count : (ls : List LinearRow) (rs : List Row) → AreRowsOf ls rs → length rs ≡ length ls
rows_count [] [] h = refl
rows_count (l ∷ ls) (r ∷ rs) h = ap suc (rows_count ls rs h.1)
rows_count [] (r ∷ rs) h = absurd h
rows_count (l ∷ ls) [] h = absurd h

pub weighted_same : {R S : Type 0} (f : Option R → ℤ) (g : Option S → ℤ) (rs : List R) (ls : List S) (ts : List (ℕ × ℤ))
    → ((k : ℕ) → f (slice_get rs k) ≡ g (slice_get ls k)) → weighted f rs ts ≡ weighted g ls ts
unfolding weighted
weighted_same f g rs ls [] h = refl
weighted_same f g rs ls (t ∷ ts) h = omega (arith, ints, ap (λ z. t.1 *ℤ z) (h t.0), weighted_same f g rs ls ts h)

-- a leaf of the code's system is one of the word's rows
pub leaf_of : {E : Type 0} (s : Search E) (w : Pending E) (system : System) (ts : List (ℕ × ℤ)) → SystemAt s w system → LeafOf system ts → IsLeaf s w ts
leaf_of s w system ts is leaf =
    let ls = bounded_rows s w in
    record {
      multipliers = subst (λ (n : ℕ). AreMultipliers 0 n ts) (rows_count ls system.rows is.rows) leaf.multipliers;
      none_positive = λ u. subst (λ (z : ℤ). z ≤ℤ pos 0)
          (weighted_same (code_coefficient u) (linear_coefficient_in u) system.rows ls ts (λ k. coefficient_same u ls system.rows k is.rows))
          (leaf.none_positive u);
      negative = subst (λ (z : ℤ). z <ℤ pos 0) (weighted_same code_constant linear_constant_in system.rows ls ts (λ k. constant_same ls system.rows k is.rows))
          leaf.negative;
    }

-- a leaf of the word's rows is one of the code's system
pub leaf_back : {E : Type 0} (s : Search E) (w : Pending E) (system : System) (ts : List (ℕ × ℤ)) → SystemAt s w system → IsLeaf s w ts → LeafOf system ts
leaf_back s w system ts is leaf =
    let ls = bounded_rows s w in
    record {
      multipliers = subst (λ (n : ℕ). AreMultipliers 0 n ts) (sym (rows_count ls system.rows is.rows)) leaf.multipliers;
      none_positive = λ u. subst (λ (z : ℤ). z ≤ℤ pos 0)
          (sym (weighted_same (code_coefficient u) (linear_coefficient_in u) system.rows ls ts (λ k. coefficient_same u ls system.rows k is.rows)))
          (leaf.none_positive u);
      negative = subst (λ (z : ℤ). z <ℤ pos 0)
          (sym (weighted_same code_constant linear_constant_in system.rows ls ts (λ k. constant_same ls system.rows k is.rows))) leaf.negative;
    }

row_same : (vs : List ℕ) (l : LinearRow) (r : Row) → IsNormal 0 (length vs) r.form.terms → IsRowOf l r → row_value vs l ≡ value_of (value_at vs) r.form
row_same vs l r n is =
    let each = range_sum-same (λ u. get_or l.coefficients u (pos 0) *ℤ value_at vs u) (λ u. coefficient r.form.terms u *ℤ value_at vs u) (length vs)
    (λ u b. ap (λ z. z *ℤ value_at vs u) (sym (is.coefficients u))) in
    omega (arith, ints, combine-range l.coefficients vs, each, terms_value-sum (value_at vs) 0 (length vs) r.form.terms n, is.constant)

rows_hold : (vs : List ℕ) (n : ℕ) (ls : List LinearRow) (rs : List Row) → n ≡ length vs → AllBelow n rs → AreRowsOf ls rs → All (RowHolds (value_at vs)) rs
    → AllHold vs ls
rows_hold vs n [] [] e b is h = tt
rows_hold vs n (l ∷ ls) (r ∷ rs) e b is h =
    let first : pos 0 ≤ℤ value_of (value_at vs) r.form = h 0 r (omega arith) in
    let normal : IsNormal 0 (length vs) r.form.terms = subst (λ (k : ℕ). IsNormal 0 k r.form.terms) e b.0 in
    (omega (arith, ints, row_same vs l r normal is.0, first), rows_hold vs n ls rs e b.1 is.1 (λ k d c. h (suc k) d (omega arith)))
rows_hold vs n [] (r ∷ rs) e b is h = absurd is
rows_hold vs n (l ∷ ls) [] e b is h = absurd is

rows_back : (vs : List ℕ) (n : ℕ) (ls : List LinearRow) (rs : List Row) → n ≡ length vs → AllBelow n rs → AreRowsOf ls rs → AllHold vs ls
    → All (RowHolds (value_at vs)) rs
rows_back vs n [] [] e b is h k d c = absurd (omega arith)
rows_back vs n (l ∷ ls) (r ∷ rs) e b is h zero d c =
    let first : pos 0 ≤ℤ row_value vs l = h.0 in
    let normal : IsNormal 0 (length vs) r.form.terms = subst (λ (k : ℕ). IsNormal 0 k r.form.terms) e b.0 in
    omega (arith, ints, row_same vs l r normal is.0, first)
rows_back vs n (l ∷ ls) (r ∷ rs) e b is h (suc k) d c = rows_back vs n ls rs e b.1 is.1 h.1 k d (omega arith)
rows_back vs n [] (r ∷ rs) e b is h k d c = absurd is
rows_back vs n (l ∷ ls) [] e b is h k d c = absurd is

-- a solution of the code's system is one of the word
pub solution_of : {E : Type 0} (s : Search E) (w : Pending E) (system : System) (vs : List ℕ) → SystemAt s w system → Solves system vs → SolvesAt s w vs
solution_of s w system vs is solves = record {
  count = solves.count ∙ is.unknowns;
  rows_hold = rows_hold vs system.unknowns (bounded_rows s w) system.rows (sym solves.count) system.within is.rows solves.rows_hold;
}

-- a solution of the word is one of the code's system
pub solution_back : {E : Type 0} (s : Search E) (w : Pending E) (system : System) (vs : List ℕ) → SystemAt s w system → SolvesAt s w vs → Solves system vs
solution_back s w system vs is solves = record {
  count = solves.count ∙ sym is.unknowns;
  rows_hold = rows_back vs system.unknowns (bounded_rows s w) system.rows (sym (solves.count ∙ sym is.unknowns)) system.within is.rows solves.rows_hold;
}

-- a solution with bounds is one without
pub unbounded : (a : Automaton) (p : Pattern) (pairs : List (ℕ × ℕ)) (w : Pending Element) (vs : List ℕ) → SolvesAt (pattern_search a p pairs) w vs
    → SolvesWord a p w.start w.past [] vs
unbounded a p pairs w vs s = record {
  count = s.count;
  rows_hold = AllHold-append vs (word_rows a p w.start w.past) [] (AllHold-left vs (word_rows a p w.start w.past) (map bound_row w.bounds) s.rows_hold) tt;
}
