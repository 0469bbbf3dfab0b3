-- the multipliers of a refuted row are a leaf
use Rattle.ta_simplex.proofs.Common.{◌≡◌, ◌≢◌, inl, inr, ℕ, zero, suc, ◌+◌, ◌<◌, ◌≤◌, List, [], ◌∷◌, length, get_or, arith, refl, sym, ap, ◌∙◌, subst, ℤ, pos}
use Rattle.ta_simplex.proofs.Common.{◌+ℤ◌, ◌*ℤ◌, Option, Some, slice_get, cases_lt, cases_eq, ints, *ℤ-zero, range_sum, single-at, single-elsewhere}
use Rattle.ta_simplex.proofs.Common.{range_sum-front, range_sum-same, coefficient, IsNormal, terms_value, AllBelow, weighted, coefficient_in, constant_in}
use Rattle.ta_simplex.proofs.Common.{AreMultipliers, LeafOf, Row, System, coefficient-above, Tableau, row_of, basic_of, DictionaryOf, Stuck, GivesMultipliers}
use Rattle.ta_simplex.proofs.Common.{AreLeafMultipliers, FillSlots, ListsSlots}
use Rattle.ta_base.proofs.Sums.{range_sum-zero}
use Rattle.ta_linear.proofs.RangeSum.{terms_value-sum}
use Rattle.ta_simplex.proofs.LeafLaws.{cells_at, weight, slack_weighted, refuted_is_leaf}

cells_at-none : (cs : List ℤ) (us : List ℕ) (w : ℕ) → ((j : ℕ) → j < length us → get_or us j 0 ≢ w) → cells_at cs us w ≡ pos 0
unfolding cells_at
cells_at-none [] us w h = refl
cells_at-none (c ∷ cs) [] w h = refl
cells_at-none (c ∷ cs) (u ∷ us) w h = rw (single-elsewhere u w c (h 0 (omega arith)), cells_at-none cs us w (λ j b. h (suc j) (omega arith))) refl

cells_at-one : (cs : List ℤ) (us : List ℕ) (w j : ℕ) → length cs ≡ length us → j < length us → get_or us j 0 ≡ w
    → ((i : ℕ) → i < length us → i ≢ j → get_or us i 0 ≢ w) → cells_at cs us w ≡ get_or cs j (pos 0)
unfolding cells_at
cells_at-one [] us w j e h is once = absurd (omega arith)
cells_at-one (c ∷ cs) [] w j e h is once = absurd (omega arith)
cells_at-one (c ∷ cs) (u ∷ us) w zero e h is once = rw (single-at u w c is, cells_at-none cs us w (λ i b. once (suc i) (omega arith) (omega arith)))
    (omega (arith, ints))
cells_at-one (c ∷ cs) (u ∷ us) w (suc j) e h is once = rw (
  single-elsewhere u w c (once 0 (omega arith) (omega arith)),
  cells_at-one cs us w j (omega arith) (omega arith) is
      (λ i b ne. once (suc i) (omega arith) (omega arith)),
) (omega (arith, ints))

-- each multiplier is the weight of its slack
multiplier_is : (s : System) (t : Tableau) (row k : ℕ) (multiplier : ℕ → ℤ) → DictionaryOf s t → row < length t.rows → k < length s.rows
    → GivesMultipliers s.unknowns (length s.rows) t row multiplier →
    multiplier k ≡ weight (row_of t row) t.non_basic (s.unknowns + k)
multiplier_is s t row k multiplier d h inside g =
    elim (d.basis.cover (s.unknowns + k) (omega arith)) [
      | inl b ↦
          let none = cells_at-none (row_of t row).cells t.non_basic (s.unknowns + k) (λ j below same. d.basis.apart b.0 j b.1 below (b.2 ∙ sym same)) in
          elim (cases_eq b.0 row) [
            | inl own ↦
                let same : basic_of t row ≡ s.unknowns + k = ap (basic_of t) (sym own) ∙ b.2 in
                let one = single-at (basic_of t row) (s.unknowns + k) (row_of t row).denominator same in
                let is = g.own k inside same in
                omega (arith, ints, none, one, is)
            | inr other ↦
                let off = single-elsewhere (basic_of t row) (s.unknowns + k) (row_of t row).denominator
                (λ same. other (d.basis.basic_once b.0 row b.1 h (b.2 ∙ sym same))) in
                let is = g.others b.0 k b.1 other inside b.2 in
                omega (arith, ints, none, off, is)
          ]
      | inr c ↦
          let off = single-elsewhere (basic_of t row) (s.unknowns + k) (row_of t row).denominator (λ same. d.basis.apart row c.0 h c.1 (same ∙ sym c.2)) in
          let one = cells_at-one (row_of t row).cells t.non_basic (s.unknowns + k) c.0 (d.rows row h).long c.1 c.2
          (λ i below ne same. ne (d.basis.non_basic_once i c.0 below c.1 (same ∙ sym c.2))) in
          let is = g.cells c.0 k c.1 inside c.2 in
          omega (arith, ints, off, one, is)
    ]

weighted-terms : (part : Option Row → ℤ) (rows : List Row) (ts : List (ℕ × ℤ)) → weighted part rows ts ≡ terms_value (λ k. part (slice_get rows k)) ts
unfolding weighted
weighted-terms part rows [] = refl
weighted-terms part rows (t ∷ ts) = ap (λ (z : ℤ). (t.1 *ℤ part (slice_get rows t.0)) +ℤ z) (weighted-terms part rows ts)

slack-sum : (weights : ℕ → ℤ) (u : ℕ) (rs : List Row) (part : Option Row → ℤ)
    → range_sum (λ k. weights (u + k) *ℤ part (slice_get rs k)) (length rs) ≡ slack_weighted weights u rs (λ r. part (Some r))
unfolding slack_weighted
slack-sum weights u [] part = range_sum-zero (λ k. weights (u + k) *ℤ part (slice_get [] k)) 0 (λ k low. absurd (omega arith))
slack-sum weights u (r ∷ rs) part =
    let front = range_sum-front (λ k. weights (u + k) *ℤ part (slice_get (r ∷ rs) k)) (length rs) in
    let rest = range_sum-same (λ k. weights (u + suc k) *ℤ part (slice_get rs k)) (λ k. weights (suc u + k) *ℤ part (slice_get rs k)) (length rs)
    (λ k h. ap (λ (v : ℕ). weights v *ℤ part (slice_get rs k)) (omega arith)) in
    let first : weights (u + 0) *ℤ part (Some r) ≡ weights u *ℤ part (Some r) = ap (λ (v : ℕ). weights v *ℤ part (Some r)) (omega arith) in
    omega (arith, ints, front, rest, first, slack-sum weights (suc u) rs part)

-- the sum of the multiplied rows is that of the rows times the weights of their slacks
sum_is : (s : System) (t : Tableau) (row : ℕ) (ts : List (ℕ × ℤ)) (part : Option Row → ℤ) → IsNormal 0 (length s.rows) ts
    → ((k : ℕ) → k < length s.rows → coefficient ts k ≡ weight (row_of t row) t.non_basic (s.unknowns + k)) →
    weighted part s.rows ts ≡ slack_weighted (weight (row_of t row) t.non_basic) s.unknowns s.rows (λ r. part (Some r))
sum_is s t row ts part normal is =
    weighted-terms part s.rows ts
    ∙ terms_value-sum (λ k. part (slice_get s.rows k)) 0 (length s.rows) ts normal
    ∙ range_sum-same (λ k. coefficient ts k *ℤ part (slice_get s.rows k)) (λ k. weight (row_of t row) t.non_basic (s.unknowns + k) *ℤ part (slice_get s.rows k))
    (length s.rows) (λ k h. ap (λ (z : ℤ). z *ℤ part (slice_get s.rows k)) (is k h))
    ∙ slack-sum (weight (row_of t row) t.non_basic) s.unknowns s.rows part

nothing_beyond : (weights : ℕ → ℤ) (n x v : ℕ) (rs : List Row) → AllBelow n rs → n ≤ x → slack_weighted weights v rs (λ r. coefficient r.form.terms x) ≡ pos 0
unfolding slack_weighted
nothing_beyond weights n x v [] all h = refl
nothing_beyond weights n x v (r ∷ rs) all h = omega (
  arith,
  ints,
  ap (λ (z : ℤ). weights v *ℤ z) (coefficient-above 0 n r.form.terms x all.0 h),
  *ℤ-zero (weights v),
  nothing_beyond weights n x (suc v) rs
      all.1 h,
)

leaf_is : (s : System) (t : Tableau) (row : ℕ) (ts : List (ℕ × ℤ)) → DictionaryOf s t → Stuck t row → IsNormal 0 (length s.rows) ts
    → AreMultipliers 0 (length s.rows) ts → GivesMultipliers s.unknowns (length s.rows) t row (coefficient ts) → LeafOf s ts
leaf_is s t row ts d stuck normal multipliers gives =
    let h = stuck.leaves.below in
    let r = d.rows row h in
    let is = λ (k : ℕ) (inside : k < length s.rows). multiplier_is s t row k (coefficient ts) d h inside gives in
    let both = refuted_is_leaf s.unknowns s.rows (row_of t row) t.non_basic s.within (d.basis.basic_below row h) d.basis.non_basic_below r.holds r.positive
    r.long stuck.leaves.negative stuck.none_enters in
    record {
      multipliers = multipliers;
      none_positive = λ x. rw (sum_is s t row ts (coefficient_in x) normal is) (elim (cases_lt x s.unknowns) [
        | inl below ↦ both.0 x below
        | inr beyond ↦ omega (arith, ints, nothing_beyond (weight (row_of t row) t.non_basic) s.unknowns x s.unknowns s.rows s.within beyond)
      ]);
      negative = rw (sum_is s t row ts constant_in normal is) both.1;
    }

some_multiplier : (s : System) (ts : List (ℕ × ℤ)) → LeafOf s ts → 0 < length ts
unfolding weighted
some_multiplier s [] leaf = absurd (let n = leaf.negative in omega (arith, ints, n))
some_multiplier s (t ∷ ts) leaf = omega arith

pub multipliers_are_leaf : (s : System) (t : Tableau) (row : ℕ) (ms : List ℤ) (ts : List (ℕ × ℤ)) → DictionaryOf s t → Stuck t row
    → FillSlots s.unknowns (length s.rows) t row ms → ListsSlots ms (length ms) ts → AreLeafMultipliers s t row ts
multipliers_are_leaf s t row ms ts d stuck filled listed =
    let all = subst (λ (n : ℕ). ListsSlots ms n ts) filled.long listed in
    let g = filled.gives in
    let gives : GivesMultipliers s.unknowns (length s.rows) t row (coefficient ts) = record {
      own = λ k inside same. all.coefficients k inside ∙ g.own k inside same;
      cells = λ j k below inside same. all.coefficients k inside ∙ g.cells j k below inside same;
      others = λ i k below apart inside same. all.coefficients k inside ∙ g.others i k below apart inside same;
    } in
    let leaf = leaf_is s t row ts d stuck all.normal all.multipliers gives in
    record { gives = gives; leaf = leaf; some = some_multiplier s ts leaf }
