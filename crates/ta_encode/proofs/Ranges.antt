-- the check of a leaf over a system of the code and over the rows of its word
use Rattle.ta_encode.proofs.Common.{*ℤ-zero, nat_tests, InRange, linear_coefficient_in, linear_constant_in}
use Rattle.ta_encode.proofs.CursorCommon.{◌≡◌, ℕ, ◌<◌, ◌≤◌, ℤ, pos, ◌+ℤ◌, ◌*ℤ◌, List, [], ◌∷◌, true, false, cond, slice_get, nat_lt, arith, sym, ap, ◌∙◌, refl}
use Rattle.ta_encode.proofs.CursorCommon.{subst, inl, inr, cases_lt, ints, System, Pending, Search, bounded_rows, SystemAt, coefficient_same, constant_same}
use Rattle.ta_linear.specs.Sums.{StaysInRange}
use Rattle.ta_linear.specs.Leaf.{coefficient_in as code_coefficient, constant_in as code_constant}
use Rattle.ta_farkas.specs.Columns.{entry, CheckStays}
use Rattle.ta_farkas.proofs.Judging.{none_beyond}
use Rattle.ta_encode.specs.Range.{LeafStays}

-- rows with the same numbers stay in range alike
pub stays_same : (f g : ℕ → ℤ) (so_far : ℤ) (ts : List (ℕ × ℤ)) → ((k : ℕ) → f k ≡ g k) → StaysInRange f so_far ts → StaysInRange g so_far ts
stays_same f g so_far [] same stays = tt
stays_same f g so_far (t ∷ ts) same stays =
    let e : (t.1 *ℤ f t.0) ≡ (t.1 *ℤ g t.0) = ap (λ z. t.1 *ℤ z) (same t.0) in (
      subst InRange e stays.0,
      subst (λ z. InRange (so_far +ℤ z)) e stays.1,
      stays_same f g (so_far +ℤ (t.1 *ℤ g t.0)) ts same (subst (λ z. StaysInRange f (so_far +ℤ z) ts) e stays.2),
    )

-- zeros stay in range
zeros_stay : (f : ℕ → ℤ) (so_far : ℤ) (ts : List (ℕ × ℤ)) → ((k : ℕ) → f k ≡ pos 0) → so_far ≡ pos 0 → StaysInRange f so_far ts
zeros_stay f so_far [] zeros none = tt
zeros_stay f so_far (t ∷ ts) zeros none =
    let product : (t.1 *ℤ f t.0) ≡ pos 0 = ap (λ z. t.1 *ℤ z) (zeros t.0) ∙ *ℤ-zero t.1 in
    let sum : (so_far +ℤ (t.1 *ℤ f t.0)) ≡ pos 0 = omega (arith, ints) in
    let zero_fits : InRange (pos 0) = omega arith in
    (subst InRange (sym product) zero_fits, subst InRange (sym sum) zero_fits, zeros_stay f (so_far +ℤ (t.1 *ℤ f t.0)) ts zeros sum)

-- the column of an unknown has coefficients, the one behind them constants
entry_unknown : (s : System) (u k : ℕ) → u < s.unknowns → entry s u k ≡ code_coefficient u (slice_get s.rows k)
entry_unknown s u k h =
    let e : nat_lt u s.unknowns ≡ true = grind (arith, nat_tests) in
    ap (λ b. cond b (code_coefficient u (slice_get s.rows k)) (code_constant (slice_get s.rows k))) e

entry_constant : (s : System) (column k : ℕ) → s.unknowns ≤ column → entry s column k ≡ code_constant (slice_get s.rows k)
entry_constant s column k h =
    let e : nat_lt column s.unknowns ≡ false = grind (arith, nat_tests) in
    ap (λ b. cond b (code_coefficient column (slice_get s.rows k)) (code_constant (slice_get s.rows k))) e

-- a check that stays in range over a system of the code does so over the word's rows
pub leaf_stays : {E : Type 0} (search : Search E) (w : Pending E) (s : System) (ts : List (ℕ × ℤ)) → SystemAt search w s → CheckStays s ts
    → LeafStays (bounded_rows search w) ts
leaf_stays search w s ts is stays =
    let ls = bounded_rows search w in
    record {
      coefficients = λ u. elim (cases_lt u s.unknowns) [
        | inl below ↦ stays_same (entry s u) (λ k. linear_coefficient_in u (slice_get ls k)) (pos 0) ts
            (λ k. entry_unknown s u k below ∙ coefficient_same u ls s.rows k is.rows) (stays u (omega arith))
        | inr beyond ↦ zeros_stay (λ k. linear_coefficient_in u (slice_get ls k)) (pos 0) ts
            (λ k. sym (coefficient_same u ls s.rows k is.rows) ∙ none_beyond s.unknowns u s.rows k s.within beyond) refl
      ];
      constants = stays_same (entry s s.unknowns) (λ k. linear_constant_in (slice_get ls k)) (pos 0) ts
          (λ k. entry_constant s s.unknowns k (omega arith) ∙ constant_same ls s.rows k is.rows) (stays s.unknowns (omega arith));
    }

-- and the other way
pub check_stays : {E : Type 0} (search : Search E) (w : Pending E) (s : System) (ts : List (ℕ × ℤ)) → SystemAt search w s → LeafStays (bounded_rows search w) ts
    → CheckStays s ts
check_stays search w s ts is stays column within =
    let ls = bounded_rows search w in
    elim (cases_lt column s.unknowns) [
      | inl below ↦ stays_same (λ k. linear_coefficient_in column (slice_get ls k)) (entry s column) (pos 0) ts
          (λ k. sym (entry_unknown s column k below ∙ coefficient_same column ls s.rows k is.rows)) (stays.coefficients column)
      | inr beyond ↦ stays_same (λ k. linear_constant_in (slice_get ls k)) (entry s column) (pos 0) ts
          (λ k. sym (entry_constant s column k beyond ∙ constant_same ls s.rows k is.rows)) stays.constants
    ]
