use Rattle.ta_dense.proofs.Common.{◌≡◌, ◌⊎◌, inl, inr, ℕ, zero, suc, ◌<◌, List, ◌∷◌, length, set, arith, refl, sym, ◌∙◌, ℤ, pos, negsuc, ◌<ℤ◌, int_div}
use Rattle.ta_dense.proofs.Common.{length-map, length-set, div_exact, factor_positive, factors_agree, product_positive, IsGcd-gcd_of, TableauRow, combine}
use Rattle.ta_dense.proofs.Common.{cell_of, merged, merged_at, merged_by, reduced, divisor_of, factor_divisor, EquationHolds, unsigned_abs}
use Rattle.ta_dense.proofs.Dot.{dot-replaced}
use Rattle.ta_dense.proofs.PivotLaws.{Holds-merged_by, length-combine}
use Rattle.ta_dense.proofs.Divide.{gcd_with_divides, Holds-divided}

-- the merged row by a cell
abbrev pub merged_with : ℤ → ℕ → TableauRow → TableauRow → TableauRow
merged_with a column chosen r =
    merged_by (int_div (cell_of chosen column) (pos (factor_divisor (cell_of chosen column) a))) (int_div a (pos (factor_divisor (cell_of chosen column) a)))
    column chosen r

-- the cell of the column is 0 and the row stays, or the row is merged
pub merged_cases : (column : ℕ) (chosen r : TableauRow) →
    ((cell_of r column ≡ pos 0) × (merged column chosen r ≡ r)) ⊎ (merged column chosen r ≡ reduced (merged_with (cell_of r column) column chosen r))
unfolding merged
merged_cases column chosen r = go (cell_of r column) refl
  where
    go : (a : ℤ) → a ≡ cell_of r column → ((a ≡ pos 0) × (merged_at a column chosen r ≡ r))
        ⊎ (merged_at a column chosen r ≡ reduced (merged_with a column chosen r))
    go (pos zero) e = inl (refl, refl)
    go (pos (suc n)) e = inr refl
    go (negsuc n) e = inr refl

-- what each row of a dictionary keeps
pub record Good (A : ℤ → (ℕ → ℤ) → Type 0) (us : List ℕ) (r : TableauRow) : Type 0 where
  pub positive : pos 0 <ℤ r.denominator
  pub long : length r.cells ≡ length us
  pub holds : (scale : ℤ) (value : ℕ → ℤ) → A scale value → EquationHolds us r scale value

-- a divided row is as good
Good-reduced : (A : ℤ → (ℕ → ℤ) → Type 0) (us : List ℕ) (r : TableauRow) → Good A us r → Good A us (reduced r)
Good-reduced A us r good =
    let divides = gcd_with_divides (r.constant ∷ r.cells) (unsigned_abs r.denominator) in
    let exact = div_exact (divisor_of r) r.denominator divides.0 in
    let some = factor_positive (divisor_of r) (int_div r.denominator (pos (divisor_of r))) r.denominator exact good.positive in
    record {
      positive = some.1;
      long = length-map r.cells (λ z. int_div z (pos (divisor_of r))) ∙ good.long;
      holds = λ scale value a. Holds-divided us (divisor_of r) r scale value some.0 divides.0 divides.1 (good.holds scale value a);
    }

-- each other row stays good
pub Good-merged : (A : ℤ → (ℕ → ℤ) → Type 0) (us : List ℕ) (chosen r : TableauRow) (column : ℕ) → column < length us → pos 0 <ℤ cell_of chosen column →
    Good A us chosen → Good A us r → Good A (set us column chosen.basic) (merged column chosen r)
Good-merged A us chosen r column h positive good_chosen good =
    elim (merged_cases column chosen r) [
      | inl stays ↦ rw stays.1 record {
        positive = good.positive;
        long = good.long ∙ sym (length-set us column chosen.basic);
        holds = λ scale value a.
            rw (dot-replaced r.cells us value column chosen.basic stays.0) (good.holds scale value a);
      }
      | inr is ↦
          let c = cell_of chosen column in
          let a = cell_of r column in
          let g = factor_divisor c a in
          let gcd = IsGcd-gcd_of (unsigned_abs c) (unsigned_abs a) in
          let p = div_exact g c gcd.0 in
          let q = div_exact g a gcd.1 in
          let some = factor_positive g (int_div c (pos g)) c p positive in
          rw is (Good-reduced A (set us column chosen.basic) (merged_with a column chosen r) record {
            positive = product_positive (int_div c (pos g)) r.denominator some.1 good.positive;
            long = length-set (combine (int_div c (pos g)) (int_div a (pos g)) r.cells chosen.cells) column _
                ∙ length-combine _ _ r.cells chosen.cells (good.long ∙ sym good_chosen.long) ∙ good.long ∙ sym (length-set us column chosen.basic);
            holds = λ scale value assigned.
                Holds-merged_by us chosen r column (int_div c (pos g)) (int_div a (pos g)) scale value (let e = good.long in omega arith) (sym good.long)
                (good_chosen.long ∙ sym good.long)
                (factors_agree c a (int_div c (pos g)) (int_div a (pos g)) g some.0 p q) (good_chosen.holds scale value assigned)
                (good.holds scale value assigned);
          })
    ]
