-- solutions of the code's systems and values that meet a node's rows
use Rattle.ta_moments.proofs.Common.{◌≡◌, ℕ, zero, suc, ◌<◌, pos, ◌+ℤ◌, ◌*ℤ◌, ◌≤ℤ◌, List, [], ◌∷◌, length, get_or, arith, ints, sym, ap, ◌∙◌, subst}
use Rattle.ta_moments.proofs.Common.{AllByRecursion, range_sum, range_sum-same, Row, RowHolds, coefficient, terms_value, UnknownForm, node_rows, known}
use Rattle.ta_moments.proofs.Common.{append-nil, Pairwise, IsRowOfForm}
use Rattle.ta_linear.proofs.RangeSum.{terms_value-sum}
use Rattle.ta_linear.specs.Rows.{AllBelow}
use Rattle.ta_linear.specs.Terms.{IsNormal}
use Rattle.ta_moments.proofs.Cones.{none_positive}
use Rattle.ta_moments.proofs.Values.{value_is}
use Rattle.ta_moments.proofs.Worth.{number}
use Rattle.ta_moments.specs.Scaled.{SolutionsMeetNodes, SystemsOfConesHaveNoPositiveConstants}
use Rattle.ta_moments.specs.Whole.{form_value}

row_value_is : (n : ℕ) (vs : List ℕ) (f : UnknownForm) (r : Row) → length vs ≡ n → IsNormal 0 n r.form.terms → IsRowOfForm f r
    → (r.form.constant +ℤ terms_value (number vs) r.form.terms) ≡ form_value vs f
row_value_is n vs f r long normal same =
    let sum = terms_value-sum (number vs) 0 n r.form.terms normal in
    let each = range_sum-same (λ u. coefficient r.form.terms u *ℤ number vs u) (λ u. f.coefficient u *ℤ number vs u) n
    (λ u _. ap (λ z. z *ℤ number vs u) (same.coefficients u)) in
    let all = ap (range_sum (λ u. f.coefficient u *ℤ number vs u)) long in
    omega (arith, ints, same.constant, sum, each, all, value_is vs f)

rows_meet : (n : ℕ) (vs : List ℕ) (fs : List UnknownForm) (rs : List Row) → length vs ≡ n → AllBelow n rs → Pairwise IsRowOfForm fs rs
    → ((k : ℕ) (d : Row) → k < length rs → RowHolds (number vs) (get_or rs k d)) → AllByRecursion (λ f. pos 0 ≤ℤ form_value vs f) fs
rows_meet n vs [] [] long below h all = tt
rows_meet n vs [] (r ∷ rs) long below h all = absurd h
rows_meet n vs (f ∷ fs) [] long below h all = absurd h
rows_meet n vs (f ∷ fs) (r ∷ rs) long below h all =
    let first : pos 0 ≤ℤ (r.form.constant +ℤ terms_value (number vs) r.form.terms) = all 0 r (omega arith) in
    (omega (arith, ints, first, row_value_is n vs f r long below.0 h.0), rows_meet n vs fs rs long below.1 h.1 (λ k d b. all (suc k) d (omega arith)))

rows_hold : (n : ℕ) (vs : List ℕ) (fs : List UnknownForm) (rs : List Row) → length vs ≡ n → AllBelow n rs → Pairwise IsRowOfForm fs rs
    → AllByRecursion (λ f. pos 0 ≤ℤ form_value vs f) fs → (k : ℕ) (d : Row) → k < length rs → RowHolds (number vs) (get_or rs k d)
rows_hold n vs [] [] long below h all k d b = absurd (omega arith)
rows_hold n vs [] (r ∷ rs) long below h all k d b = absurd h
rows_hold n vs (f ∷ fs) [] long below h all k d b = absurd h
rows_hold n vs (f ∷ fs) (r ∷ rs) long below h all zero d b = omega (arith, ints, all.0, row_value_is n vs f r long below.0 h.0)
rows_hold n vs (f ∷ fs) (r ∷ rs) long below h all (suc k) d b = rows_hold n vs fs rs long below.1 h.1 all.1 k d (omega arith)

pub solutions_meet : SolutionsMeetNodes
solutions_meet a p asking node system s vs = (
  (λ solved. (
    solved.count ∙ s.unknowns,
    rows_meet system.unknowns vs (node_rows a p asking node) system.rows solved.count system.within s.rows
        solved.rows_hold,
  )),
  λ met. record {
    count = met.0 ∙ sym s.unknowns;
    rows_hold = rows_hold system.unknowns vs (node_rows a p asking node) system.rows (met.0 ∙ sym s.unknowns)
        system.within s.rows met.1;
  },
)

row_constants : (fs : List UnknownForm) (rs : List Row) → Pairwise IsRowOfForm fs rs → AllByRecursion (λ (f : UnknownForm). f.constant ≤ℤ pos 0) fs
    → (k : ℕ) (d : Row) → k < length rs → (get_or rs k d).form.constant ≤ℤ pos 0
row_constants [] [] h low k d b = absurd (omega arith)
row_constants [] (r ∷ rs) h low k d b = absurd h
row_constants (f ∷ fs) [] h low k d b = absurd h
row_constants (f ∷ fs) (r ∷ rs) h low zero d b = omega (arith, ints, low.0, (h.0).constant)
row_constants (f ∷ fs) (r ∷ rs) h low (suc k) d b = row_constants fs rs h.1 low.1 k d (omega arith)

pub none_in_systems : SystemsOfConesHaveNoPositiveConstants
none_in_systems a p c candidate past h system s =
    row_constants (known a p [] candidate past).rows system.rows
    (subst (λ (fs : List UnknownForm). Pairwise IsRowOfForm fs system.rows) (append-nil (known a p [] candidate past).rows) s.rows)
    (none_positive a p c candidate past h)
