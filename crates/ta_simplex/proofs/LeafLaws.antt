use Rattle.ta_simplex.proofs.Common.{◌≡◌, inl, inr, ℕ, suc, ◌+◌, ◌<◌, List, [], ◌∷◌, length, get_or, cond, eqb, arith, refl, sym, ap, ◌∙◌, ℤ, pos, ◌+ℤ◌, ◌*ℤ◌}
use Rattle.ta_simplex.proofs.Common.{◌-ℤ◌, neg_ℤ, ◌<ℤ◌, ◌≤ℤ◌, cases_eq, eqb_tells, ints, *ℤ_comm, expand, single, single-at, single-elsewhere, single-le}
use Rattle.ta_simplex.proofs.Common.{sum_between, sum-add, sum-single, sum-split, sum-sub, sum-upto, sum-zero, TableauRow, dot, EquationHolds, terms_value}
use Rattle.ta_simplex.proofs.Common.{coefficient, slack_at, SlacksFollow, Row, AllBelow, terms_value-same, slacks_follow, extended-unknown, extended-slack}
use Rattle.ta_base.proofs.Sums.{sum_between-next, sum_between-none}
use Rattle.ta_dense.proofs.SlackDictionary.{extended}
use Rattle.ta_base.proofs.Integers.{one_times, and_none, balance_of_one}
use Rattle.std.proofs.Math.IntN.{+ℤ_idl}

-- the cells of a variable, added up: at most one, where the variables differ
unfoldable pub cells_at : List ℤ → List ℕ → ℕ → ℤ
cells_at [] us w = pos 0
cells_at (c ∷ cs) [] w = pos 0
cells_at (c ∷ cs) (u ∷ us) w = single u c w +ℤ cells_at cs us w

-- a dot as a sum over all variables
sum-cells : (n : ℕ) (cs : List ℤ) (us : List ℕ) (f : ℕ → ℤ) → ((j : ℕ) → j < length us → get_or us j 0 < n)
    → sum_between 0 n (λ w. cells_at cs us w *ℤ f w) ≡ dot cs us f
unfolding cells_at
sum-cells n [] us f below = sum-upto 0 n (λ w. pos 0 *ℤ f w) (λ _. pos 0) (λ w h. omega (arith, ints)) ∙ sum-zero 0 n
sum-cells n (c ∷ cs) [] f below = sum-upto 0 n (λ w. pos 0 *ℤ f w) (λ _. pos 0) (λ w h. omega (arith, ints)) ∙ sum-zero 0 n
sum-cells n (c ∷ cs) (u ∷ us) f below =
    sum-upto 0 n (λ w. (single u c w +ℤ cells_at cs us w) *ℤ f w) (λ w. single u c w *ℤ f w +ℤ cells_at cs us w *ℤ f w)
    (λ w h. simp expand (omega (arith, ints)))
    ∙ sum-add 0 n (λ w. single u c w *ℤ f w) (λ w. cells_at cs us w *ℤ f w)
    ∙ (rw (sum-single 0 n u c f (omega arith) (let h = below 0 (omega arith) in omega arith), sum-cells n cs us f (λ j h. below (suc j) (omega arith))) refl)

-- what a refuted row gives each variable: its denominator for its own variable, less the cell
abbrev pub weight : TableauRow → List ℕ → ℕ → ℤ
weight r us w = single r.basic r.denominator w -ℤ cells_at r.cells us w

weight_product : (r : TableauRow) (us : List ℕ) (value : ℕ → ℤ) (w : ℕ)
    → weight r us w *ℤ value w ≡ single r.basic r.denominator w *ℤ value w -ℤ cells_at r.cells us w *ℤ value w
weight_product r us value w = simp expand (omega (arith, ints))

-- the weights of all variables add up to the row's constant
pub weights-sum : (n : ℕ) (r : TableauRow) (us : List ℕ) (scale : ℤ) (value : ℕ → ℤ) → r.basic < n → ((j : ℕ) → j < length us → get_or us j 0 < n)
    → EquationHolds us r scale value →
    sum_between 0 n (λ w. weight r us w *ℤ value w) ≡ scale *ℤ r.constant
weights-sum n r us scale value below inside holds =
    sum-upto 0 n (λ w. weight r us w *ℤ value w) (λ w. single r.basic r.denominator w *ℤ value w -ℤ cells_at r.cells us w *ℤ value w)
    (λ w h. (weight_product r us value) w)
    ∙ sum-sub 0 n (λ w. single r.basic r.denominator w *ℤ value w) (λ w. cells_at r.cells us w *ℤ value w)
    ∙ (rw (sum-single 0 n r.basic r.denominator value (omega arith) (omega arith), sum-cells n r.cells us value inside) (omega (arith, ints, holds)))

-- the sum over rows of the weight of its slack times a number of the row; the first row's slack is v
unfoldable pub slack_weighted : (ℕ → ℤ) → ℕ → List Row → (Row → ℤ) → ℤ
slack_weighted weights v [] number = pos 0
slack_weighted weights v (r ∷ rs) number = weights v *ℤ number r +ℤ slack_weighted weights (suc v) rs number

-- the rows' values are these numbers
abbrev pub Numbers : List Row → ℤ → (ℕ → ℤ) → (Row → ℤ) → Type 0
Numbers [] scale value number = Unit {0}
Numbers (r ∷ rs) scale value number = (slack_at r scale value ≡ number r) × Numbers rs scale value number

slacks-weighted : (weights : ℕ → ℤ) (v : ℕ) (rs : List Row) (scale : ℤ) (value : ℕ → ℤ) (number : Row → ℤ) → SlacksFollow rs v scale value
    → Numbers rs scale value number →
    sum_between v (length rs) (λ w. weights w *ℤ value w) ≡ slack_weighted weights v rs number
unfolding slack_weighted
slacks-weighted weights v [] scale value number follow same = sum_between-none v (λ w. weights w *ℤ value w)
slacks-weighted weights v (r ∷ rs) scale value number follow same =
    sum_between-next v (length rs) (λ w. weights w *ℤ value w)
    ∙ rw (follow.0, same.0, slacks-weighted weights (suc v) rs scale value number follow.1 same.1) refl

-- the weights of the slacks make up what the weights of the unknowns leave of the row's constant
balance : (u : ℕ) (rs : List Row) (r : TableauRow) (us : List ℕ) (scale : ℤ) (value : ℕ → ℤ) (number : Row → ℤ) → r.basic < u + length rs
    → ((j : ℕ) → j < length us → get_or us j 0 < u + length rs) →
    EquationHolds us r scale value → SlacksFollow rs u scale value → Numbers rs scale value number →
    sum_between 0 u (λ w. weight r us w *ℤ value w) +ℤ slack_weighted (weight r us) u rs number ≡ scale *ℤ r.constant
balance u rs r us scale value number below inside holds follow same =
    let e = sum-split 0 u (length rs) (λ w. weight r us w *ℤ value w) in
    let z : 0 + u ≡ u = omega arith in
    let k = ap (λ (a : ℕ). sum_between a (length rs) (λ w. weight r us w *ℤ value w)) z ∙ slacks-weighted (weight r us) u rs scale value number follow same in
    ap (λ (x : ℤ). sum_between 0 u (λ w. weight r us w *ℤ value w) +ℤ x) (sym k) ∙ sym e ∙ weights-sum (u + length rs) r us scale value below inside holds

terms_value-zero : (ts : List (ℕ × ℤ)) → terms_value (λ _. pos 0) ts ≡ pos 0
terms_value-zero [] = refl
terms_value-zero (t ∷ ts) = omega (arith, ints, terms_value-zero ts)

terms_value-single : (ts : List (ℕ × ℤ)) (k : ℕ) → terms_value (single k (pos 1)) ts ≡ coefficient ts k
terms_value-single [] k = refl
terms_value-single (t ∷ ts) k = ap (λ (x : ℤ). x +ℤ terms_value (single k (pos 1)) ts) (one t)
    ∙ ap (λ (x : ℤ). cond (eqb t.0 k) t.1 (pos 0) +ℤ x) (terms_value-single ts k)
  where
    one : (t : ℕ × ℤ) → t.1 *ℤ single k (pos 1) t.0 ≡ cond (eqb t.0 k) t.1 (pos 0)
    one t = elim (eqb_tells t.0 k) [
      | inl same ↦ rw (same.0, single-at k t.0 (pos 1) (sym same.1)) (omega (arith, ints))
      | inr other ↦ rw
          (other.0, single-elsewhere k t.0 (pos 1) (λ e. other.1 (sym e))) (omega (arith, ints))
    ]

numbers_extended : (n : ℕ) (rs : List Row) (scale : ℤ) (value want : ℕ → ℤ) (number : Row → ℤ) → AllBelow n rs → ((v : ℕ) → v < n → value v ≡ want v)
    → ((r : Row) → slack_at r scale want ≡ number r) → Numbers rs scale value number
numbers_extended n [] scale value want number below same is = tt
numbers_extended n (r ∷ rs) scale value want number below same is = (
  ap (λ (z : ℤ). z +ℤ scale *ℤ r.form.constant) (terms_value-same 0 n r.form.terms value want below.0 same) ∙ is r,
  numbers_extended n rs scale value want number below.1 same is,
)

-- the slack_weighted rows at a scale and unknowns of one's own
at_choice : (u : ℕ) (rs : List Row) (r : TableauRow) (us : List ℕ) (scale : ℤ) (want : ℕ → ℤ) (number : Row → ℤ) → AllBelow u rs → r.basic < u + length rs
    → ((j : ℕ) → j < length us → get_or us j 0 < u + length rs) →
    ((s : ℤ) (value : ℕ → ℤ) → SlacksFollow rs u s value → EquationHolds us r s value) → ((q : Row) → slack_at q scale want ≡ number q) →
    sum_between 0 u (λ w. weight r us w *ℤ want w) +ℤ slack_weighted (weight r us) u rs number ≡ scale *ℤ r.constant
at_choice u rs r us scale want number known below inside holds is =
    let value = extended u rs scale want in
    let agree = extended-unknown u rs scale want in
    let follow = slacks_follow u u rs scale value want known agree (extended-slack u rs scale want) in
    let e = balance u rs r us scale value number below inside (holds scale value follow) follow (numbers_extended u rs scale value want number known agree is)
    in
    ap (λ (z : ℤ). z +ℤ slack_weighted (weight r us) u rs number)
    (sum-upto 0 u (λ w. weight r us w *ℤ want w) (λ w. weight r us w *ℤ value w) (λ w h. ap (λ (z : ℤ). weight r us w *ℤ z) (sym (agree w (omega arith)))))
    ∙ e

-- the slack_weighted constants add up to the row's constant
pub leaf_constant : (u : ℕ) (rs : List Row) (r : TableauRow) (us : List ℕ) → AllBelow u rs → r.basic < u + length rs
    → ((j : ℕ) → j < length us → get_or us j 0 < u + length rs) →
    ((s : ℤ) (value : ℕ → ℤ) → SlacksFollow rs u s value → EquationHolds us r s value) → slack_weighted (weight r us) u rs (λ q. q.form.constant) ≡ r.constant
leaf_constant u rs r us known below inside holds =
    let e = at_choice u rs r us (pos 1) (λ _. pos 0) (λ q. q.form.constant) known below inside holds
    (λ q. ap (λ (z : ℤ). z +ℤ pos 1 *ℤ q.form.constant) (terms_value-zero q.form.terms) ∙ +ℤ_idl (pos 1 *ℤ q.form.constant) ∙ one_times q.form.constant) in
    let z = sum-upto 0 u (λ w. weight r us w *ℤ pos 0) (λ _. pos 0) (λ w h. omega (arith, ints)) ∙ sum-zero 0 u in
    omega (arith, ints, e, z)

-- the slack_weighted coefficients of an unknown add up to what its own weight takes away
pub leaf_column : (u : ℕ) (rs : List Row) (r : TableauRow) (us : List ℕ) (k : ℕ) → k < u → AllBelow u rs → r.basic < u + length rs
    → ((j : ℕ) → j < length us → get_or us j 0 < u + length rs) →
    ((s : ℤ) (value : ℕ → ℤ) → SlacksFollow rs u s value → EquationHolds us r s value)
    → slack_weighted (weight r us) u rs (λ q. coefficient q.form.terms k) ≡ neg_ℤ (weight r us k)
leaf_column u rs r us k h known below inside holds =
    let e = at_choice u rs r us (pos 0) (single k (pos 1)) (λ q. coefficient q.form.terms k) known below inside holds
    (λ q. ap (λ (z : ℤ). z +ℤ pos 0 *ℤ q.form.constant) (terms_value-single q.form.terms k) ∙ and_none (coefficient q.form.terms k) q.form.constant) in
    let z = sum-upto 0 u (λ w. weight r us w *ℤ single k (pos 1) w) (λ w. single k (pos 1) w *ℤ weight r us w)
    (λ w h. *ℤ_comm (weight r us w) (single k (pos 1) w)) ∙ sum-single 0 u k (pos 1) (weight r us) (omega arith) (omega arith) in
    balance_of_one (weight r us k) (slack_weighted (weight r us) u rs (λ q. coefficient q.form.terms k))
    (sum_between 0 u (λ w. weight r us w *ℤ single k (pos 1) w)) r.constant e z

cells_at-le : (cs : List ℤ) (us : List ℕ) (w : ℕ) → length cs ≡ length us → ((j : ℕ) → j < length us → get_or cs j (pos 0) ≤ℤ pos 0) → cells_at cs us w ≤ℤ pos 0
unfolding cells_at
cells_at-le [] us w e h = omega (arith, ints)
cells_at-le (c ∷ cs) [] w e h = omega (arith, ints)
cells_at-le (c ∷ cs) (u ∷ us) w e h =
    omega (arith, ints, single-le u w c (h 0 (omega arith)), cells_at-le cs us w (omega arith) (λ j below. h (suc j) (omega arith)))

-- where nothing can enter, no weight is negative
pub weight-natural : (r : TableauRow) (us : List ℕ) (w : ℕ) → pos 0 <ℤ r.denominator → length r.cells ≡ length us
    → ((j : ℕ) → j < length us → get_or r.cells j (pos 0) ≤ℤ pos 0) → pos 0 ≤ℤ weight r us w
weight-natural r us w positive long low =
    let c = cells_at-le r.cells us w long low in
    elim (cases_eq r.basic w) [
      | inl same ↦ rw (single-at r.basic w r.denominator same) (omega (arith, ints, positive, c))
      | inr other ↦ rw (single-elsewhere r.basic w r.denominator other) (omega (arith, ints, c))
    ]

-- a refuted row's weights are a Leaf: no unknown's sum is positive, and the constants' sum is negative
pub refuted_is_leaf : (u : ℕ) (rs : List Row) (r : TableauRow) (us : List ℕ) → AllBelow u rs → r.basic < u + length rs
    → ((j : ℕ) → j < length us → get_or us j 0 < u + length rs) →
    ((s : ℤ) (value : ℕ → ℤ) → SlacksFollow rs u s value → EquationHolds us r s value) → pos 0 <ℤ r.denominator → length r.cells ≡ length us →
    r.constant <ℤ pos 0 → ((j : ℕ) → j < length us → get_or r.cells j (pos 0) ≤ℤ pos 0) →
    ((k : ℕ) → k < u → slack_weighted (weight r us) u rs (λ q. coefficient q.form.terms k) ≤ℤ pos 0)
    × (slack_weighted (weight r us) u rs (λ q. q.form.constant) <ℤ pos 0)
refuted_is_leaf u rs r us known below inside holds positive long negative low = (
  λ k h. rw (leaf_column u rs r us k h known below inside holds) (let w = weight-natural r us k positive long low in omega (arith, ints, w)),
  rw (leaf_constant u rs r us known below inside holds) negative,
)
