-- a refutation has multipliers for the stuck row's own slack and for non-basic slacks alone: at most one more than there are columns
use Rattle.ta_simplex.proofs.Common.{◌≡◌, ◌⊎◌, inl, inr, ℕ, zero, suc, ◌+◌, ◌<◌, ◌≤◌, List, [], ◌∷◌, length, get_or, eqb, arith, refl, sym, ap, ◌∙◌, ℤ, pos}
use Rattle.ta_simplex.proofs.Common.{◌≤ℤ◌, cases_lt, cases_eq, ints, length-set, length-range_with_len, pigeon, coefficient, AreMultipliers, System, Tableau}
use Rattle.ta_simplex.proofs.Common.{basic_of, non_basic_of, slack_tableau, DictionaryOf, Reached, GivesMultipliers, MultipliersAreFew, single-at}
use Rattle.std.proofs.Common.{eqb-true, not}
use Rattle.std.specs.List.{position_or_len}
use Rattle.std.proofs.lemmas.Bool.{eqb-false}
use Rattle.std.proofs.lemmas.List.Sums.{fails_before_first, passes_at_first, prefix_len-le-length}
use Rattle.ta_base.proofs.Integers.{single, single-natural}
use Rattle.ta_simplex.proofs.RunLemmas.{reached_dictionary}

-- the first place of a number in a list, and the length where it is in none
abbrev place : List ℕ → ℕ → ℕ
place us v = position_or_len (λ u. eqb u v) us

-- the row that a term multiplies
abbrev multiplied : List (ℕ × ℤ) → ℕ → ℕ
multiplied ts i = (get_or ts i (0, pos 0)).0

multiplied-le : (low count : ℕ) (ts : List (ℕ × ℤ)) (i : ℕ) → AreMultipliers low count ts → i < length ts → low ≤ multiplied ts i
multiplied-le low count [] i m h = absurd (omega arith)
multiplied-le low count (t ∷ ts) zero m h = m.0
multiplied-le low count (t ∷ ts) (suc i) m h = let k = multiplied-le (t.0 + 1) count ts i m.3 (omega arith) in let l = m.0 in omega arith

multiplied-lt : (low count : ℕ) (ts : List (ℕ × ℤ)) (i : ℕ) → AreMultipliers low count ts → i < length ts → multiplied ts i < count
multiplied-lt low count [] i m h = absurd (omega arith)
multiplied-lt low count (t ∷ ts) zero m h = m.1
multiplied-lt low count (t ∷ ts) (suc i) m h = multiplied-lt (t.0 + 1) count ts i m.3 (omega arith)

multiplied-rises : (low count : ℕ) (ts : List (ℕ × ℤ)) (i j : ℕ) → AreMultipliers low count ts → i < j → j < length ts → multiplied ts i < multiplied ts j
multiplied-rises low count [] i j m h k = absurd (omega arith)
multiplied-rises low count (t ∷ ts) i zero m h k = absurd (omega arith)
multiplied-rises low count (t ∷ ts) zero (suc j) m h k = let l = multiplied-le (t.0 + 1) count ts j m.3 (omega arith) in omega arith
multiplied-rises low count (t ∷ ts) (suc i) (suc j) m h k = multiplied-rises (t.0 + 1) count ts i j m.3 (omega arith) (omega arith)

coefficient-natural : (low count : ℕ) (ts : List (ℕ × ℤ)) (k : ℕ) → AreMultipliers low count ts → pos 0 ≤ℤ coefficient ts k
unfolding single
coefficient-natural low count [] k m = omega (arith, ints)
coefficient-natural low count (t ∷ ts) k m = omega
    (arith, ints, single-natural t.0 k t.1 (omega (arith, ints, m.2)), coefficient-natural (t.0 + 1) count ts k m.3)

coefficient-positive : (low count : ℕ) (ts : List (ℕ × ℤ)) (i : ℕ) → AreMultipliers low count ts → i < length ts → pos 1 ≤ℤ coefficient ts (multiplied ts i)
unfolding single
coefficient-positive low count [] i m h = absurd (omega arith)
coefficient-positive low count (t ∷ ts) zero m h = omega (arith, ints, single-at t.0 t.0 t.1 refl, m.2, coefficient-natural (t.0 + 1) count ts t.0 m.3)
coefficient-positive low count (t ∷ ts) (suc i) m h = omega
    (arith, ints, single-natural t.0 (multiplied ts i) t.1 (omega (arith, ints, m.2)), coefficient-positive (t.0 + 1) count ts i m.3 (omega arith))

-- a pivot keeps the number of columns
reached_columns : (s : System) (k : ℕ) (t : Tableau) → Reached (slack_tableau s) k t → length t.non_basic ≡ s.unknowns
unfolding slack_tableau
reached_columns s zero t e = ap (λ (u : Tableau). length u.non_basic) e ∙ length-range_with_len 0 s.unknowns
reached_columns s (suc k) t r =
    let step = r.2 in
    ap (λ (u : Tableau). length u.non_basic) step.next ∙ length-set r.0.non_basic step.column (basic_of r.0 step.row) ∙ reached_columns s k r.0 r.1

-- the slack of a row that is multiplied is the stuck row's own, or it is non-basic
own_or_column : (s : System) (t : Tableau) (row k : ℕ) (multiplier : ℕ → ℤ) → DictionaryOf s t → GivesMultipliers s.unknowns (length s.rows) t row multiplier
    → k < length s.rows → pos 1 ≤ℤ multiplier k →
    (basic_of t row ≡ s.unknowns + k) ⊎ (place t.non_basic (s.unknowns + k) < length t.non_basic)
own_or_column s t row k multiplier d g inside positive =
    elim (d.basis.cover (s.unknowns + k) (omega arith)) [
      | inl b ↦ elim (cases_eq b.0 row) [
        | inl own ↦ inl (ap (basic_of t) (sym own) ∙ b.2)
        | inr other ↦ let none = g.others b.0 k b.1 other inside b.2 in absurd (omega (arith, ints, none, positive))
      ]
      | inr c ↦ inr (elim (cases_lt (place t.non_basic (s.unknowns + k)) (length t.non_basic)) [
        | inl found ↦ found
        | inr none ↦ absurd (eqb-false (non_basic_of t c.0) (s.unknowns + k)
            (fails_before_first (λ u. eqb u (s.unknowns + k)) t.non_basic c.0 0 (let below = c.1 in omega arith)) c.2)
      ])
    ]

-- no two rows that are multiplied have their slacks at one place
same_place : (s : System) (t : Tableau) (row k l : ℕ) (multiplier : ℕ → ℤ) → DictionaryOf s t → GivesMultipliers s.unknowns (length s.rows) t row multiplier
    → k < length s.rows → l < length s.rows → pos 1 ≤ℤ multiplier k → pos 1 ≤ℤ multiplier l →
    place t.non_basic (s.unknowns + k) ≡ place t.non_basic (s.unknowns + l) → k ≡ l
same_place s t row k l multiplier d g inside inside' positive positive' same =
    elim (cases_lt (place t.non_basic (s.unknowns + k)) (length t.non_basic)) [
      | inl here ↦
          let e = eqb-true _ _ (passes_at_first (λ u. eqb u (s.unknowns + k)) t.non_basic 0 here) in
          let e' = eqb-true _ _ (passes_at_first (λ u. eqb u (s.unknowns + l)) t.non_basic 0 (omega arith)) in
          let e'' = ap (non_basic_of t) same in
          omega arith
      | inr past ↦ elim (own_or_column s t row k multiplier d g inside positive) [
        | inl own ↦ elim (own_or_column s t row l multiplier d g inside' positive') [
          | inl own' ↦ omega arith
          | inr column ↦ absurd (omega arith)
        ]
        | inr column ↦ absurd (omega arith)
      ]
    ]

pub few_multipliers : MultipliersAreFew
few_multipliers s ts r =
    let d = reached_dictionary s r.steps r.tableau r.reached in
    let g = r.multipliers.gives in
    let m = r.multipliers.leaf.multipliers in
    let columns = reached_columns s r.steps r.tableau r.reached in
    pigeon (s.unknowns + 1) (λ i. place r.tableau.non_basic (s.unknowns + multiplied ts i)) (length ts)
    (λ i h. let k = prefix_len-le-length (λ u. not (eqb u (s.unknowns + multiplied ts i))) r.tableau.non_basic in omega arith)
    (λ i j h h' same.
    let rises = multiplied-rises 0 (length s.rows) ts i j m h h' in
    let inside = multiplied-lt 0 (length s.rows) ts i m (omega arith) in
    let inside' = multiplied-lt 0 (length s.rows) ts j m h' in
    let positive = coefficient-positive 0 (length s.rows) ts i m (omega arith) in
    let positive' = coefficient-positive 0 (length s.rows) ts j m h' in
    let k = same_place s r.tableau r.row (multiplied ts i) (multiplied ts j) (coefficient ts) d g inside inside' positive positive' same in
    omega arith)
