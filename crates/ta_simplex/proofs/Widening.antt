-- rows with cells of 0 behind their own: what a pivot makes of them
use Rattle.ta_simplex.proofs.Common.{◌≡◌, ℕ, zero, suc, ◌<◌, ◌≤◌, List, [], ◌∷◌, ◌++◌, length, map, set, arith, refl, ap, ◌∙◌, ℤ, pos, negsuc, ◌*ℤ◌, ◌-ℤ◌}
use Rattle.ta_simplex.proofs.Common.{unsigned_abs, int_div, replicate, map-append, length-map, set-append_left, get_or_append_left, times_zero, TableauRow}
use Rattle.ta_simplex.proofs.Common.{combine, cell_of, gcd_with, merged, merged_at, merged_by, reduced, divided, divisor_of, factor_divisor, turned, widened}
use Rattle.ta_simplex.proofs.Common.{raised, record_same, neg_ℤ, zero-div, zeros_past}
use Rattle.ta_base.proofs.Lists.{map-replicate}
use Rattle.ta_linear.specs.Gcd.{gcd_of}
use Rattle.ta_linear.proofs.GcdLemmas.{gcd_of-zero}
use Rattle.ta_dense.proofs.PivotLaws.{length-combine}

combine_nothing : (p q : ℤ) (e : ℕ) → combine p q (replicate e (pos 0)) (replicate e (pos 0)) ≡ replicate e (pos 0)
combine_nothing p q zero = refl
combine_nothing p q (suc e) = let rest = combine_nothing p q e in let first = times_zero p q in cc

combine_zeros : (p q : ℤ) (xs cs : List ℤ) (e : ℕ) → length xs ≡ length cs
    → combine p q (xs ++ replicate e (pos 0)) (cs ++ replicate e (pos 0)) ≡ combine p q xs cs ++ replicate e (pos 0)
combine_zeros p q [] [] e h = combine_nothing p q e
combine_zeros p q [] (c ∷ cs) e h = absurd (omega arith)
combine_zeros p q (x ∷ xs) [] e h = absurd (omega arith)
combine_zeros p q (x ∷ xs) (c ∷ cs) e h = ap (λ (ys : List ℤ). (p *ℤ x -ℤ q *ℤ c) ∷ ys) (combine_zeros p q xs cs e (omega arith))

gcd_nothing : (g e : ℕ) → gcd_with g (replicate e (pos 0)) ≡ g
gcd_nothing g zero = refl
gcd_nothing g (suc e) = ap (λ (k : ℕ). gcd_with k (replicate e (pos 0))) (gcd_of-zero g 0 refl) ∙ gcd_nothing g e

gcd_zeros : (g : ℕ) (xs : List ℤ) (e : ℕ) → gcd_with g (xs ++ replicate e (pos 0)) ≡ gcd_with g xs
gcd_zeros g [] e = gcd_nothing g e
gcd_zeros g (x ∷ xs) e = gcd_zeros (gcd_of g (unsigned_abs x)) xs e

divided_zeros : (n e g : ℕ) (r : TableauRow) → divided g (widened n e r) ≡ widened n e (divided g r)
divided_zeros n e g r =
    record_same (divided g (widened n e r)) (widened n e (divided g r)) refl refl refl
    (map-append (λ (z : ℤ). int_div z (pos g)) r.cells (replicate e (pos 0))
    ∙ ap (λ (ys : List ℤ). map (λ (z : ℤ). int_div z (pos g)) r.cells ++ ys)
    (map-replicate (λ (z : ℤ). int_div z (pos g)) e (pos 0) ∙ ap (λ n. replicate e (pos n)) (zero-div g)))

reduced_zeros : (n e : ℕ) (r : TableauRow) → reduced (widened n e r) ≡ widened n e (reduced r)
reduced_zeros n e r =
    ap (λ (g : ℕ). divided g (widened n e r)) (gcd_zeros (gcd_of (unsigned_abs r.denominator) (unsigned_abs r.constant)) r.cells e)
    ∙ divided_zeros n e (divisor_of r) r

merged_by_zeros : (n e : ℕ) (p q : ℤ) (column : ℕ) (chosen r : TableauRow) → length r.cells ≡ length chosen.cells → column < length r.cells →
    merged_by p q column (widened n e chosen) (widened n e r) ≡ widened n e (merged_by p q column chosen r)
merged_by_zeros n e p q column chosen r long inside =
    let l = length-combine p q r.cells chosen.cells long in
    record_same (merged_by p q column (widened n e chosen) (widened n e r)) (widened n e (merged_by p q column chosen r)) refl refl refl
    (ap (λ (xs : List ℤ). set xs column (q *ℤ chosen.denominator)) (combine_zeros p q r.cells chosen.cells e long)
    ∙ set-append_left (combine p q r.cells chosen.cells) (replicate e (pos 0)) column (q *ℤ chosen.denominator) (omega arith))

pub cell_inside : (n e : ℕ) (r : TableauRow) (column : ℕ) → column < length r.cells → cell_of (widened n e r) column ≡ cell_of r column
cell_inside n e r column h = get_or_append_left r.cells (replicate e (pos 0)) (pos 0) column h

pub cell_beyond : (n e : ℕ) (r : TableauRow) (j : ℕ) → length r.cells ≤ j → cell_of (widened n e r) j ≡ pos 0
cell_beyond n e r j h = zeros_past r.cells e j h

-- a pivot makes the same of a widened row
pub merged_widened : (n e column : ℕ) (chosen r : TableauRow) → length r.cells ≡ length chosen.cells → column < length r.cells →
    merged column (widened n e chosen) (widened n e r) ≡ widened n e (merged column chosen r)
unfolding merged
merged_widened n e column chosen r long inside =
    ap (λ (a : ℤ). merged_at a column (widened n e chosen) (widened n e r)) (cell_inside n e r column inside) ∙ go (cell_of r column)
  where
    same : cell_of (widened n e chosen) column ≡ cell_of chosen column
    same = cell_inside n e chosen column (omega arith)

    by : (a : ℤ) → reduced (merged_by (int_div (cell_of (widened n e chosen) column) (pos (factor_divisor (cell_of (widened n e chosen) column) a)))
        (int_div a (pos (factor_divisor (cell_of (widened n e chosen) column) a))) column (widened n e chosen) (widened n e r))
        ≡ widened n e (reduced (merged_by (int_div (cell_of chosen column) (pos (factor_divisor (cell_of chosen column) a)))
        (int_div a (pos (factor_divisor (cell_of chosen column) a))) column chosen r))
    by a =
        ap (λ (c : ℤ). reduced (merged_by (int_div c (pos (factor_divisor c a))) (int_div a (pos (factor_divisor c a))) column (widened n e chosen)
        (widened n e r))) same
        ∙ ap reduced (merged_by_zeros n e (int_div (cell_of chosen column) (pos (factor_divisor (cell_of chosen column) a)))
        (int_div a (pos (factor_divisor (cell_of chosen column) a))) column chosen r long inside)
        ∙ reduced_zeros n e (merged_by (int_div (cell_of chosen column) (pos (factor_divisor (cell_of chosen column) a)))
        (int_div a (pos (factor_divisor (cell_of chosen column) a))) column chosen r)

    go : (a : ℤ) → merged_at a column (widened n e chosen) (widened n e r) ≡ widened n e (merged_at a column chosen r)
    go (pos zero) = refl
    go (pos (suc k)) = by (pos (suc k))
    go (negsuc k) = by (negsuc k)

-- the chosen row's variable is of no account
pub merged_chosen : (column : ℕ) (c c' r : TableauRow) → c.denominator ≡ c'.denominator → c.constant ≡ c'.constant → c.cells ≡ c'.cells
    → merged column c r ≡ merged column c' r
unfolding merged
merged_chosen column c c' r d b cells =
    let with : TableauRow = record { basic = c.basic; denominator = c'.denominator; constant = c'.constant; cells = c'.cells } in
    ap (λ (x : TableauRow). merged_at (cell_of r column) column x r) (record_same c with refl d b cells) ∙ go (cell_of r column)
  where
    go : (a : ℤ) → merged_at a column record { basic = c.basic; denominator = c'.denominator; constant = c'.constant; cells = c'.cells } r ≡ merged_at a column
        c' r
    go (pos zero) = refl
    go (pos (suc k)) = refl
    go (negsuc k) = refl

pub turned_widened : (n e column entering : ℕ) (c : TableauRow) → column < length c.cells →
    turned (raised n e entering) column (widened n e c) ≡ widened n e (turned entering column c)
turned_widened n e column entering c inside =
    let l = length-map c.cells neg_ℤ in
    record_same (turned (raised n e entering) column (widened n e c)) (widened n e (turned entering column c)) refl (cell_inside n e c column inside) refl
    (ap (λ (xs : List ℤ). set xs column c.denominator)
    (map-append neg_ℤ c.cells (replicate e (pos 0)) ∙ ap (λ (ys : List ℤ). map neg_ℤ c.cells ++ ys) (map-replicate neg_ℤ e (pos 0)))
    ∙ set-append_left (map neg_ℤ c.cells) (replicate e (pos 0)) column c.denominator (omega arith))
