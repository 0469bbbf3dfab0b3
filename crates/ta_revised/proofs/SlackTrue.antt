-- the sum of the unknowns' rows for a slack is a row of the dictionary
use Rattle.ta_revised.proofs.Common.{ℕ, zero, suc, ◌<◌, ◌+◌, ◌≡◌, List, [], ◌∷◌, length, get_or, replicate, arith, refl, sym, ap, ◌∙◌, subst, ℤ, pos, neg_ℤ}
use Rattle.ta_revised.proofs.Common.{◌<ℤ◌, ◌+ℤ◌, ◌*ℤ◌, ◌-ℤ◌, inl, inr, unsigned_abs, ints, slice_get_cases, length-map, length-replicate, ◌∣◌, Some, int_div}
use Rattle.ta_revised.proofs.Common.{slice_get, IsSomeAnd, expand, pos_abs, times_assoc, IsNormal-le, IsNormal, terms_value, Row, System, IsAssignment}
use Rattle.ta_revised.proofs.Common.{variables, Tableau, TableauRow, basic_of, combine, divisor_of, no_row, reduced, row_of, EquationHolds, IsDictionaryRow}
use Rattle.ta_revised.proofs.Common.{dot, gcd_with_divides, length-combine, IsScale, factor_of, plus_row, plus_terms, scaled_constant, slack_row_over}
use Rattle.ta_revised.proofs.Common.{slack_sum, IsRevised}
use Rattle.std.proofs.Math.IntN.{*ℤ_comm}
use Rattle.ta_base.proofs.Integers.{div_exact, factor_positive}
use Rattle.ta_dense.proofs.Divide.{Holds-divided}
use Rattle.ta_dense.proofs.Dot.{dot-combine}
use Rattle.ta_dense.proofs.Primitive.{IsPrimitive-reduced}
use Rattle.ta_dense.proofs.Unique.{unique_row}
use Rattle.ta_revised.proofs.SlackValues.{below_at, follow_at}

-- what a sum is after the multiple of a row that makes k times the scale of an unknown
plus_arith : (x sigma b s d v br sr f k l after : ℤ) → x ≡ sigma *ℤ b +ℤ s → d *ℤ v ≡ sigma *ℤ br +ℤ sr → f *ℤ d ≡ k *ℤ l
    → after ≡ pos 1 *ℤ s -ℤ neg_ℤ f *ℤ sr → x +ℤ l *ℤ (k *ℤ v) ≡ sigma *ℤ (b +ℤ f *ℤ br) +ℤ after
plus_arith x sigma b s d v br sr f k l after h1 h2 h3 h4 =
    let y = simp expand at (ap (λ (z : ℤ). f *ℤ z) h2) in
    let w = simp expand at (ap (λ (z : ℤ). z *ℤ v) h3) in
    let u = simp expand at h4 in
    simp expand (omega (arith, ints, h1, y, w, u))

-- the sum over one term more
more_arith : (x l kv rest sum : ℤ) → (x +ℤ l *ℤ kv) +ℤ l *ℤ rest ≡ sum → x +ℤ l *ℤ (kv +ℤ rest) ≡ sum
more_arith x l kv rest sum h = simp expand (omega (arith, ints, h))

-- how often a row is added, times its denominator, is the coefficient times the scale
pub factor_exact : (scale : ℕ) (k : ℤ) (r : TableauRow) → pos 0 <ℤ r.denominator → unsigned_abs r.denominator ∣ scale
    → factor_of scale k r *ℤ r.denominator ≡ k *ℤ pos scale
factor_exact scale k r positive divides =
    let e : r.denominator *ℤ int_div (pos scale) r.denominator ≡ pos scale =
    subst (λ (z : ℤ). z *ℤ int_div (pos scale) z ≡ pos scale) (pos_abs r.denominator positive) (div_exact (unsigned_abs r.denominator) (pos scale) divides) in
    times_assoc k (int_div (pos scale) r.denominator) r.denominator
    ∙ ap (λ (z : ℤ). k *ℤ z) (*ℤ_comm (int_div (pos scale) r.denominator) r.denominator ∙ e)

-- what stays while rows are added: the name, the denominator and the length
pub record Keeps (columns : ℕ) (a r : TableauRow) : Type 0 where
  pub basic : r.basic ≡ a.basic
  pub denominator : r.denominator ≡ a.denominator
  pub long : length r.cells ≡ columns

-- an unknown's row, its name and its part of the scale
pub record IsUnknownsRow (s : System) (us : List ℕ) (scale u : ℕ) (r : TableauRow) : Type 0 where
  pub row : IsDictionaryRow (IsAssignment s) us r
  pub named : r.basic ≡ u
  pub divides : unsigned_abs r.denominator ∣ scale

pub unknowns_row : (s : System) (t d : Tableau) (scale : ℕ) → IsRevised s t d → IsScale scale d.rows → (u : ℕ) → u < s.unknowns
    → IsUnknownsRow s t.non_basic scale u (get_or d.rows u no_row)
unknowns_row s t d scale v is u h = record { row = v.rows u h; named = v.named u h; divides = is.multiple u (let e = v.count in omega arith) }

pub plus_terms-keeps : (s : System) (t d : Tableau) (scale : ℕ) → IsRevised s t d → IsScale scale d.rows → (low : ℕ) (ts : List (ℕ × ℤ)) (a : TableauRow)
    → IsNormal low s.unknowns ts → length a.cells ≡ length t.non_basic → Keeps (length t.non_basic) a (plus_terms scale d.rows a ts)
plus_terms-keeps s t d scale v is low [] a normal long = record { basic = refl; denominator = refl; long = long }
plus_terms-keeps s t d scale v is low (x ∷ ts) a normal long =
    let inside : x.0 < s.unknowns = (let h = IsNormal-le (x.0 + 1) s.unknowns ts normal.2 in omega arith) in
    let r = get_or d.rows x.0 no_row in
    let row = unknowns_row s t d scale v is x.0 inside in
    let f = factor_of scale x.1 (get_or d.rows x.0 no_row) in
    let next = plus_terms-keeps s t d scale v is (x.0 + 1) ts (plus_row f r a) normal.2
    (length-combine (pos 1) (neg_ℤ f) a.cells r.cells (long ∙ sym row.row.long) ∙ long) in
    record { basic = next.basic; denominator = next.denominator; long = next.long }

-- what the sum says of an assignment
pub plus_terms-true : (s : System) (t d : Tableau) (scale : ℕ) → IsRevised s t d → IsScale scale d.rows → (sigma : ℤ) (value : ℕ → ℤ)
    → IsAssignment s sigma value → (low : ℕ) (ts : List (ℕ × ℤ)) (a : TableauRow) → IsNormal low s.unknowns ts → length a.cells ≡ length t.non_basic
    → (x : ℤ) → x ≡ sigma *ℤ a.constant +ℤ dot a.cells t.non_basic value →
    x +ℤ pos scale *ℤ terms_value value ts
    ≡ sigma *ℤ (plus_terms scale d.rows a ts).constant +ℤ dot (plus_terms scale d.rows a ts).cells t.non_basic value
plus_terms-true s t d scale v is sigma value assigned low [] a normal long x h = omega (arith, ints, h)
plus_terms-true s t d scale v is sigma value assigned low (y ∷ ts) a normal long x h =
    let inside : y.0 < s.unknowns = (let g = IsNormal-le (y.0 + 1) s.unknowns ts normal.2 in omega arith) in
    let r = get_or d.rows y.0 no_row in
    let row = unknowns_row s t d scale v is y.0 inside in
    let f = factor_of scale y.1 (get_or d.rows y.0 no_row) in
    let equal = long ∙ sym row.row.long in
    let equation : r.denominator *ℤ value y.0 ≡ sigma *ℤ r.constant +ℤ dot r.cells t.non_basic value =
    subst (λ (u : ℕ). r.denominator *ℤ value u ≡ sigma *ℤ r.constant +ℤ dot r.cells t.non_basic value) row.named (row.row.holds sigma value assigned) in
    let here = plus_arith x sigma a.constant (dot a.cells t.non_basic value) r.denominator (value y.0) r.constant (dot r.cells t.non_basic value) f y.1
    (pos scale) (dot (combine (pos 1) (neg_ℤ f) a.cells r.cells) t.non_basic value) h equation (factor_exact scale y.1 r row.row.positive row.divides)
    (dot-combine (pos 1) (neg_ℤ f) a.cells r.cells t.non_basic value equal) in
    more_arith x (pos scale) (y.1 *ℤ value y.0) (terms_value value ts) _
    (plus_terms-true s t d scale v is sigma value assigned (y.0 + 1) ts (plus_row f r a) normal.2
    (length-combine (pos 1) (neg_ℤ f) a.cells r.cells equal ∙ long) (x +ℤ pos scale *ℤ (y.1 *ℤ value y.0)) here)

dot-none : (n : ℕ) (us : List ℕ) (value : ℕ → ℤ) → dot (replicate n (pos 0)) us value ≡ pos 0
dot-none zero us value = refl
dot-none (suc n) [] value = refl
dot-none (suc n) (u ∷ us) value = omega (arith, ints, dot-none n us value)

-- the sum's own equation: the scale times the slack
sum_arith : (l v terms sigma c after : ℤ) → v ≡ terms +ℤ sigma *ℤ c → sigma *ℤ (l *ℤ c) +ℤ l *ℤ terms ≡ after → l *ℤ v ≡ after
sum_arith l v terms sigma c after h e = let m = simp expand at (ap (λ (z : ℤ). l *ℤ z) h) in let n = simp expand at e in omega (arith, ints, m, n)

-- a row divided by a positive number that divides each of its numbers
pub reduced_row : (s : System) (us : List ℕ) (r : TableauRow) → pos 0 <ℤ r.denominator → length r.cells ≡ length us
    → ((sigma : ℤ) (value : ℕ → ℤ) → IsAssignment s sigma value → EquationHolds us r sigma value) → IsDictionaryRow (IsAssignment s) us (reduced r)
reduced_row s us r positive long holds =
    let divides = gcd_with_divides (r.constant ∷ r.cells) (unsigned_abs r.denominator) in
    let exact = div_exact (divisor_of r) r.denominator divides.0 in
    let some = factor_positive (divisor_of r) (int_div r.denominator (pos (divisor_of r))) r.denominator exact positive in
    record {
      positive = some.1;
      long = length-map r.cells (λ z. int_div z (pos (divisor_of r))) ∙ long;
      primitive = IsPrimitive-reduced r positive;
      holds = λ sigma value assigned. Holds-divided us (divisor_of r) r sigma value some.0 divides.0 divides.1 (holds sigma value assigned);
    }

-- the slack's row in lowest terms is a row of the dictionary
pub slack_row_true : (s : System) (t d : Tableau) (scale k : ℕ) (r : Row) → IsRevised s t d → IsScale scale d.rows → slice_get s.rows k ≡ Some r
    → IsDictionaryRow (IsAssignment s) t.non_basic (slack_row_over scale (length t.non_basic) d.rows (s.unknowns + k) r)
slack_row_true s t d scale k r v is e =
    let columns = length t.non_basic in
    let first = scaled_constant scale columns (s.unknowns + k) r.form.constant in
    let normal = below_at s.unknowns s.rows k r s.within e in
    let long = length-replicate columns (pos 0) in
    let keeps = plus_terms-keeps s t d scale v is 0 r.form.terms first normal long in
    let some = is.positive in
    let positive : pos 0 <ℤ (slack_sum scale columns d.rows (s.unknowns + k) r).denominator =
    subst (λ (z : ℤ). pos 0 <ℤ z) (sym keeps.denominator) (omega (arith, ints)) in
    reduced_row s t.non_basic (slack_sum scale columns d.rows (s.unknowns + k) r) positive keeps.long (λ sigma value assigned.
    (let sum = slack_sum scale columns d.rows (s.unknowns + k) r in
    let start : sigma *ℤ (pos scale *ℤ r.form.constant)
    ≡ sigma *ℤ (pos scale *ℤ r.form.constant) +ℤ dot (replicate columns (pos 0)) t.non_basic value = omega (arith, ints, dot-none columns t.non_basic value) in
    let all = plus_terms-true s t d scale v is sigma value assigned 0 r.form.terms first normal long (sigma *ℤ (pos scale *ℤ r.form.constant)) start in
    let equation = sum_arith (pos scale) (value (s.unknowns + k)) (terms_value value r.form.terms) sigma r.form.constant
    (sigma *ℤ sum.constant +ℤ dot sum.cells t.non_basic value) (follow_at s.rows s.unknowns sigma value k r assigned e) all in
    rw (keeps.denominator, keeps.basic) equation))

-- a basic variable's row is any of its name that is true in lowest terms
pub basic_row_is : (s : System) (t d : Tableau) (i : ℕ) (r : TableauRow) → IsRevised s t d → i < length t.rows → IsDictionaryRow (IsAssignment s) t.non_basic r
    → basic_of t i ≡ r.basic → row_of t i ≡ r
basic_row_is s t d i r v h is same =
    unique_row (IsAssignment s) (variables s) t (row_of t i) r v.dictionary (v.dictionary.rows i h) is same

-- the row of a basic slack is the sum of the unknowns' rows in lowest terms
pub slack_row_is : (s : System) (t d : Tableau) (scale i k : ℕ) → IsRevised s t d → IsScale scale d.rows → i < length t.rows → basic_of t i ≡ s.unknowns + k
    → IsSomeAnd (slice_get s.rows k) (λ r. row_of t i ≡ slack_row_over scale (length t.non_basic) d.rows (s.unknowns + k) r)
slack_row_is s t d scale i k v is h same =
    let below = v.dictionary.basis.basic_below i h in
    elim (slice_get_cases s.rows k).1 [
      | inl inside ↦
          let normal = below_at s.unknowns s.rows k inside.0 s.within inside.2 in
          let long = length-replicate (length t.non_basic) (pos 0) in
          let first = scaled_constant scale (length t.non_basic) (s.unknowns + k) inside.0.form.constant in
          let keeps = plus_terms-keeps s t d scale v is 0 inside.0.form.terms first normal long in
          rw inside.2 (basic_row_is s t d i (slack_row_over scale (length t.non_basic) d.rows (s.unknowns + k) inside.0) v h
          (slack_row_true s t d scale k inside.0 v is inside.2) (same ∙ sym keeps.basic))
      | inr past ↦ (let low = past.0 in absurd (omega arith))
    ]
