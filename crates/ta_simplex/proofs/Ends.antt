use Rattle.ta_simplex.proofs.Common.{◌≡◌, ◌⊎◌, inl, inr, ℕ, zero, suc, ◌+◌, ◌^◌, ◌<◌, ◌≤◌, arith, refl, sym, ap, ◌∙◌, subst, ℤ, cases_lt, pigeon, Tableau}
use Rattle.ta_simplex.proofs.Common.{pivoted, IsDictionary, IsDictionary-pivoted, Leaves, RuleEnds, Enters}
use Rattle.ta_simplex.proofs.Basic.{is_basic}
use Rattle.ta_simplex.proofs.Bland.{Moment, no_basis_repeats}
use Rattle.ta_simplex.proofs.Moments.{moment}
use Rattle.ta_simplex.proofs.Choose.{Chosen, choose, same_row, same_column, not_ended}
use Rattle.ta_base.proofs.Bits.{mask_of-same}
use Rattle.ta_base.proofs.Naturals.{mask_of, mask_of-below}

-- how many steps of the rule follow, counted up to a bound
unfoldable pub steps_left : ℕ → Tableau → ℕ
steps_left zero t = 0
steps_left (suc b) t = elim (choose t) as (λ _. ℕ) [ inl s ↦ suc (steps_left b (pivoted t s.row s.column)) | inr ended ↦ 0 ]

-- what steps_left says by the choice
steps_cases : (b : ℕ) (t : Tableau) → ((s : Chosen t) × ((c : ℕ) → steps_left (suc c) t ≡ suc (steps_left c (pivoted t s.row s.column))))
    ⊎ (RuleEnds t × ((c : ℕ) → steps_left (suc c) t ≡ 0))
unfolding steps_left
steps_cases b t = go (choose t) refl
  where
    go : (x : Chosen t ⊎ RuleEnds t) → choose t ≡ x → ((s : Chosen t) × ((c : ℕ) → steps_left (suc c) t ≡ suc (steps_left c (pivoted t s.row s.column))))
        ⊎ (RuleEnds t × ((c : ℕ) → steps_left (suc c) t ≡ 0))
    go (inl s) e = inl (s, λ c. rw (e, steps_left) refl)
    go (inr f) e = inr (f, λ c. rw (e, steps_left) refl)

steps_bounded : (b : ℕ) (t : Tableau) → steps_left b t ≤ b
unfolding steps_left
steps_bounded zero t = omega arith
steps_bounded (suc b) t =
    elim (steps_cases b t) [
      | inl s ↦ (let e = s.1 b in let h = steps_bounded b (pivoted t s.0.row s.0.column) in omega arith)
      | inr f ↦ (let e = f.1 b in omega arith)
    ]

-- one more does not matter where the run ends before
saturated : (b : ℕ) (t : Tableau) → steps_left b t < b → steps_left (suc b) t ≡ steps_left b t
saturated zero t h = absurd (omega arith)
saturated (suc b) t h =
    elim (steps_cases b t) [
      | inl s ↦
          let e = s.1 b in
          s.1 (suc b) ∙ ap suc (saturated b (pivoted t s.0.row s.0.column) (omega arith)) ∙ sym e
      | inr f ↦ f.1 (suc b) ∙ sym (f.1 b)
    ]

-- the moments of a run
unfoldable before : Tableau → (ℕ → Tableau) → ℕ → Tableau
before t at zero = t
before t at (suc k) = at k

moment_before : (A : ℤ → (ℕ → ℤ) → Type 0) (n b : ℕ) (t : Tableau) (at : ℕ → Tableau) → Moment A n t (at 0) → ((k : ℕ) → k < b → Moment A n (at k) (at (k + 1)))
    →
    (k : ℕ) → k < suc b → Moment A n (before t at k) (before t at (k + 1))
unfolding before
moment_before A n b t at first rest zero h = first
moment_before A n b t at first rest (suc k) h =
    let e : suc (k + 1) ≡ suc k + 1 = omega arith in
    subst (λ (j : ℕ). Moment A n (at k) (before t at j)) e (rest k (omega arith))

-- b steps one after another from t
pub record Run (A : ℤ → (ℕ → ℤ) → Type 0) (n b : ℕ) (t : Tableau) : Type 0 where
  pub at : ℕ → Tableau
  pub first : at 0 ≡ t
  pub moments : (k : ℕ) → k < b → Moment A n (at k) (at (k + 1))

full_run : (A : ℤ → (ℕ → ℤ) → Type 0) (n b : ℕ) (t : Tableau) → IsDictionary A n t → steps_left b t ≡ b → Run A n b t
unfolding before
full_run A n zero t d e = record { at = λ _. t; first = refl; moments = λ k h. absurd (omega arith) }
full_run A n (suc b) t d e =
    elim (steps_cases b t) [
      | inl s ↦
          let c = s.0 in
          let d' = IsDictionary-pivoted A n t c.row c.column d c.leaves.below c.enters.below c.enters.positive in
          let rest = full_run A n b (pivoted t c.row c.column) d' (let k = s.1 b in omega arith) in
          record {
            at = before t rest.at;
            first = refl;
            moments = moment_before A n b t rest.at (subst (λ (u : Tableau). Moment A n t u) (sym rest.first) (moment A n t c.row c.column d c.leaves c.enters))
                rest.moments;
          }
      | inr f ↦ absurd (let k = f.1 b in omega arith)
    ]

-- a run of the rule has fewer steps than there are sets of variables
run_is_short : (A : ℤ → (ℕ → ℤ) → Type 0) (n b : ℕ) (t : Tableau) → Run A n b t → b < 2 ^ n
run_is_short A n b t r =
    pigeon (2 ^ n) (λ i. mask_of (is_basic (r.at i)) n) (suc b)
    (λ i h. mask_of-below (is_basic (r.at i)) n)
    (λ i j h k same. no_basis_repeats A n r.at i j h (λ m low high. r.moments m (omega arith)) (mask_of-same (is_basic (r.at i)) (is_basic (r.at j)) n same))

-- the measure of a run: the steps that are left
unfoldable pub measure : ℕ → Tableau → ℕ
measure n t = steps_left (2 ^ n) t

-- each step of the rule makes the measure fall
pub measure_falls : (A : ℤ → (ℕ → ℤ) → Type 0) (n : ℕ) (t : Tableau) (row column : ℕ) → IsDictionary A n t → Leaves t row → Enters t row column
    → measure n (pivoted t row column) < measure n t
unfolding measure
measure_falls A n t row column d l e =
    let short : steps_left (2 ^ n) t < 2 ^ n = elim (cases_lt (steps_left (2 ^ n) t) (2 ^ n)) [
      | inl less ↦ less
      | inr more ↦ (let bound = steps_bounded (2 ^ n) t in absurd (let k = run_is_short A n (2 ^ n) t (full_run A n (2 ^ n) t d (omega arith)) in omega arith))
    ] in
    let same = saturated (2 ^ n) t short in
    elim (steps_cases 0 t) [
      | inl s ↦
          let rows = same_row A n t s.0.row row d s.0.leaves l in
          let columns = same_column A n t row s.0.column column d (rw rows at s.0.enters) e in
          let k = rw (rows, columns) at (s.1 (2 ^ n)) in
          omega arith
      | inr f ↦ absurd (not_ended A n t row column d l e f.0)
    ]
