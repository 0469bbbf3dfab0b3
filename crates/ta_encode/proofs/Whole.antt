-- the system of a word with bounds, from that without
use Rattle.ta_encode.proofs.Common.{◌≡◌, ◌≢◌, ℕ, zero, suc, ◌<◌, ◌≤◌, ◌^◌, ℤ, pos, negsuc, ◌+ℤ◌, ◌-ℤ◌, List, [], ◌∷◌, ◌++◌, map, get_or, arith, sym, ap, ◌∙◌}
use Rattle.ta_encode.proofs.Common.{refl, subst, inl, inr, ints, below_append, InRange, IsNormal, coefficient, AllBelow, Form, Row, System, LinearRow, Bound}
use Rattle.ta_encode.proofs.Common.{Side, Low, High, only_at, bound_row, IsRowOf, AreRowsOf, SystemAt, Search, BoundWithin, BoundsWithin, append-nil, cases_eq}
use Rattle.ta_encode.proofs.Common.{cond_apart, cond_same}
use Rattle.ta_encode.proofs.Running.{at_variable}
use Rattle.ta_encode.proofs.Adding.{RowsOf-append}

-- the coefficient of an unknown alone
only_here : (x : ℕ) (z : ℤ) → get_or (only_at x z) x (pos 0) ≡ z
only_here zero z = refl
only_here (suc x) z = only_here x z

only_there : (x u : ℕ) (z : ℤ) → x ≢ u → get_or (only_at x z) u (pos 0) ≡ pos 0
only_there zero zero z other = absurd (other refl)
only_there zero (suc u) z other = refl
only_there (suc x) zero z other = refl
only_there (suc x) (suc u) z other = only_there x u z (λ same. other (ap suc same))

same_or_not : (x u : ℕ) (z : ℤ) → coefficient ((x, z) ∷ []) u ≡ get_or (only_at x z) u (pos 0)
same_or_not x u z =
    let alone : (at_variable (x, z) u +ℤ pos 0) ≡ at_variable (x, z) u = omega (arith, ints) in
    elim (cases_eq x u) [
      | inl same ↦ alone ∙ cond_same x u z (pos 0) same ∙ sym (ap (λ k. get_or (only_at x z) k (pos 0)) (sym same) ∙ only_here x z)
      | inr other ↦ alone ∙ cond_apart x u z (pos 0) other ∙ sym (only_there x u z other)
    ]

-- a row of the code for a bound
record BoundRow (n : ℕ) (b : Bound) : Type 0 where
  row : Row
  of : IsRowOf (bound_row b) row
  below : IsNormal 0 n row.form.terms

one_term : (n x : ℕ) (z : ℤ) → x < n → z ≢ pos 0 → InRange z → IsNormal 0 n ((x, z) ∷ [])
one_term n x z below some fits = (omega arith, record { not_zero = some; in_range = fits }, omega arith)

side_code : (n x : ℕ) (floor : ℤ) (side : Side) → n ≤ 2 ^ 32 → BoundWithin n (record { unknown = x; floor = floor; side = side })
    → BoundRow n (record { unknown = x; floor = floor; side = side })
side_code n x floor Low most within =
    let low = within.least in
    let high = within.most in
    let below = within.exists in
    let fits : InRange (negsuc 0) = omega (arith, ints) in
    let some : negsuc 0 ≢ pos 0 = λ e. absurd (cc) in
    let form : Form = record {
      constant = floor;
      terms = (x, negsuc 0) ∷ [];
      constant_fits = omega (arith, ints, low, high);
      normal = one_term (2 ^ 32) x
          (negsuc 0) (omega arith) some fits;
    } in
    record {
      row = record { form = form };
      of = record { constant = refl; coefficients = λ u. same_or_not x u (negsuc 0) };
      below = one_term n x (negsuc 0)
          below some fits;
    }
side_code n x floor High most within =
    let low = within.least in
    let high = within.most in
    let below = within.exists in
    let fits : InRange (pos 1) = omega (arith, ints) in
    let some : pos 1 ≢ pos 0 = λ e. absurd (cc) in
    let form : Form = record {
      constant = (pos 0 -ℤ floor) -ℤ pos 1;
      terms = (x, pos 1) ∷ [];
      constant_fits = omega (arith, ints, low, high);
      normal = one_term
          (2 ^ 32) x (pos 1) (omega arith) some fits;
    } in
    record {
      row = record { form = form };
      of = record { constant = refl; coefficients = λ u. same_or_not x u (pos 1) };
      below = one_term n x (pos 1) below some
          fits;
    }

-- rows of the code for bounds
record BoundRows (n : ℕ) (bs : List Bound) : Type 0 where
  rows : List Row
  of : AreRowsOf (map bound_row bs) rows
  below : AllBelow n rows

bound_rows : (n : ℕ) (bs : List Bound) → n ≤ 2 ^ 32 → BoundsWithin n bs → BoundRows n bs
bound_rows n [] most within = record { rows = []; of = tt; below = tt }
bound_rows n (b ∷ bs) most within =
    let first = side_code n b.unknown b.floor b.side most within.0 in
    let rest = bound_rows n bs most within.1 in
    record { rows = first.row ∷ rest.rows; of = (first.of, rest.of); below = (first.below, rest.below) }

-- the rows of a system without bounds
pub unbounded_rows : {E : Type 0} (search : Search E) (start : ℕ) (past : List E) (z : System)
    → SystemAt search (record { start = start; past = past; bounds = [] }) z → AreRowsOf (search.rows start past) z.rows
unbounded_rows search start past z is = subst (λ (ls : List LinearRow). AreRowsOf ls z.rows) (append-nil (search.rows start past)) is.rows

-- where a word has a system without bounds, it has one with them
pub whole_system : {E : Type 0} (search : Search E) (start : ℕ) (past : List E) (bounds : List Bound) (z : System) → z.unknowns ≤ 2 ^ 32
    → SystemAt search (record { start = start; past = past; bounds = [] }) z → BoundsWithin z.unknowns bounds → (s : System)
    × SystemAt search (record { start = start; past = past; bounds = bounds }) s
whole_system search start past bounds z most is within =
    let more = bound_rows z.unknowns bounds most within in
    let rows = search.rows start past in
    let plain = unbounded_rows search start past z is in
    let s : System = record { unknowns = z.unknowns; rows = z.rows ++ more.rows; within = below_append z.unknowns z.rows more.rows z.within more.below } in
    (s, record { unknowns = is.unknowns; rows = RowsOf-append rows (map bound_row bounds) z.rows more.rows plain more.of })
