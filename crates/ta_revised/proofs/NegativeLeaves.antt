-- the least negative variable leaves
use Rattle.ta_revised.proofs.Common.{ℕ, suc, ◌<◌, ◌+◌, ◌-◌, ◌≡◌, inl, inr, List, [], ◌∷◌, length, get_or, arith, refl, sym, ap, ◌∙◌, subst, ℤ, pos, ◌<ℤ◌, ◌≤ℤ◌}
use Rattle.ta_revised.proofs.Common.{◌+ℤ◌, ◌*ℤ◌, neg_ℤ, cases_lt, ints, slice_get_cases, Some, slice_get, cancel_positive, expand, product_positive}
use Rattle.ta_revised.proofs.Common.{IsNormal-le, IsNormal, terms_value, Row, System, DictionaryOf, IsAssignment, variables, Tableau, TableauRow, basic_of}
use Rattle.ta_revised.proofs.Common.{non_basic_of, row_of, IsDictionaryRow, dot, IsLeastNegative, NoneIsNegative, RowsHold, UnknownsHold, row_value, AreValues}
use Rattle.ta_revised.proofs.Common.{IsScale, IsRevised}
use Rattle.ta_base.proofs.Integers.{ge-zero_of_mul, lt-zero_of_mul, mul-ge-zero, mul-lt-zero, mul-neg}
use Rattle.ta_dense.specs.Leaving.{NoneLeaves}
use Rattle.ta_revised.specs.Laws.{LeavesAs, NegativesLeave}
use Rattle.ta_revised.specs.Negative.{IsNegativeSlack, IsNegativeUnknown}
use Rattle.ta_revised.proofs.SlackValues.{below_at, follow_at}

-- an assignment at which every non-basic variable is 0
pub record Vertex (s : System) (t : Tableau) : Type 0 where
  pub m : ℕ
  pub value : ℕ → ℤ
  pub some : 0 < m
  pub assigned : IsAssignment s (pos m) value
  pub zeros : (j : ℕ) → j < length t.non_basic → value (non_basic_of t j) ≡ pos 0

pub vertex_of : (s : System) (t : Tableau) → DictionaryOf s t → Vertex s t
vertex_of s t d =
    let f = d.free (pos 1) (λ _. pos 0) in
    let one : pos f.0 *ℤ pos 1 ≡ pos f.0 = omega (arith, ints) in
    record {
      m = f.0;
      value = f.1;
      some = f.2;
      assigned = subst (λ (z : ℤ). IsAssignment s z f.1) one f.3;
      zeros = λ j h. f.4 j h ∙ omega (arith, ints);
    }

dot-at_zeros : (cs : List ℤ) (us : List ℕ) (value : ℕ → ℤ) → ((j : ℕ) → j < length us → value (get_or us j 0) ≡ pos 0) → dot cs us value ≡ pos 0
dot-at_zeros [] us value h = refl
dot-at_zeros (c ∷ cs) [] value h = refl
dot-at_zeros (c ∷ cs) (u ∷ us) value h =
    let rest = dot-at_zeros cs us value (λ j below. h (suc j) (omega arith)) in
    let first : value u ≡ pos 0 = h 0 (omega arith) in
    rw (first, rest) (omega (arith, ints))

-- a row there
pub row_at_vertex : (s : System) (t : Tableau) (x : Vertex s t) (r : TableauRow) → IsDictionaryRow (IsAssignment s) t.non_basic r
    → r.denominator *ℤ x.value r.basic ≡ pos x.m *ℤ r.constant
row_at_vertex s t x r is =
    let none = dot-at_zeros r.cells t.non_basic x.value x.zeros in
    let h = is.holds (pos x.m) x.value x.assigned in
    omega (arith, ints, none, h)

pub unknown_arith : (d v m b w l : ℤ) → d *ℤ v ≡ m *ℤ b → d *ℤ w ≡ l *ℤ b → d *ℤ (l *ℤ v) ≡ d *ℤ (m *ℤ w)
unknown_arith d v m b w l h e =
    let x = simp expand at (ap (λ (z : ℤ). l *ℤ z) h) in
    let y = simp expand at (ap (λ (z : ℤ). m *ℤ z) e) in
    simp expand (omega (arith, ints, x, y))

-- an unknown there, by its value over the scale
pub unknown_at_vertex : (s : System) (t d : Tableau) (scale : ℕ) (values : List ℤ) (x : Vertex s t) → IsRevised s t d → AreValues scale d.rows values
    → (u : ℕ) → u < s.unknowns → pos scale *ℤ x.value u ≡ pos x.m *ℤ get_or values u (pos 0)
unknown_at_vertex s t d scale values x v are u h =
    let r = row_of d u in
    let row = v.rows u h in
    let within : u < length d.rows = (let e = v.count in omega arith) in
    let at : r.denominator *ℤ x.value u ≡ pos x.m *ℤ r.constant =
    subst (λ (w : ℕ). r.denominator *ℤ x.value w ≡ pos x.m *ℤ r.constant) (v.named u h) (row_at_vertex s t x r row) in
    cancel_positive r.denominator (pos scale *ℤ x.value u) (pos x.m *ℤ get_or values u (pos 0)) row.positive
    (unknown_arith r.denominator (x.value u) (pos x.m) r.constant (get_or values u (pos 0)) (pos scale) at (are.each u within))

term_arith : (l m k v w rest other : ℤ) → l *ℤ v ≡ m *ℤ w → l *ℤ rest ≡ m *ℤ other → l *ℤ (k *ℤ v +ℤ rest) ≡ m *ℤ (k *ℤ w +ℤ other)
term_arith l m k v w rest other h e = let x = simp expand at (ap (λ (z : ℤ). k *ℤ z) h) in simp expand (omega (arith, ints, x, e))

-- values with one multiple give terms with it
pub terms_value-multiple : (low n : ℕ) (ts : List (ℕ × ℤ)) (f g : ℕ → ℤ) (l m : ℤ) → IsNormal low n ts → ((u : ℕ) → u < n → l *ℤ f u ≡ m *ℤ g u)
    → l *ℤ terms_value f ts ≡ m *ℤ terms_value g ts
terms_value-multiple low n [] f g l m normal same = omega (arith, ints)
terms_value-multiple low n (y ∷ ts) f g l m normal same =
    let inside : y.0 < n = (let h = IsNormal-le (y.0 + 1) n ts normal.2 in omega arith) in
    term_arith l m y.1 (f y.0) (g y.0) (terms_value f ts) (terms_value g ts) (same y.0 inside)
    (terms_value-multiple (y.0 + 1) n ts f g l m normal.2 same)

pub slack_arith : (l m v terms other c : ℤ) → v ≡ terms +ℤ m *ℤ c → l *ℤ terms ≡ m *ℤ other → l *ℤ v ≡ m *ℤ (other +ℤ l *ℤ c)
slack_arith l m v terms other c h e = let x = simp expand at (ap (λ (z : ℤ). l *ℤ z) h) in simp expand (omega (arith, ints, x, e))

-- a slack there, by its row's value over the scale
pub slack_at_vertex : (s : System) (t d : Tableau) (scale : ℕ) (values : List ℤ) (x : Vertex s t) → IsRevised s t d → AreValues scale d.rows values
    → (k : ℕ) (r : Row) → slice_get s.rows k ≡ Some r → pos scale *ℤ x.value (s.unknowns + k) ≡ pos x.m *ℤ row_value scale values r
slack_at_vertex s t d scale values x v are k r e =
    let w : ℕ → ℤ = λ u. get_or values u (pos 0) in
    slack_arith (pos scale) (pos x.m) (x.value (s.unknowns + k)) (terms_value x.value r.form.terms) (terms_value w r.form.terms) r.form.constant
    (follow_at s.rows s.unknowns (pos x.m) x.value k r x.assigned e)
    (terms_value-multiple 0 s.unknowns r.form.terms x.value w (pos scale) (pos x.m) (below_at s.unknowns s.rows k r s.within e)
    (λ u h. unknown_at_vertex s t d scale values x v are u h))

-- signs of equal multiples
negative_as : (l m : ℕ) (v w : ℤ) → 0 < l → 0 < m → pos l *ℤ v ≡ pos m *ℤ w → w <ℤ pos 0 → v <ℤ pos 0
negative_as l m v w h k e low = lt-zero_of_mul (pos l) v (omega (arith, ints)) (subst (λ (z : ℤ). z <ℤ pos 0) (sym e) (mul-lt-zero m w k low))

pub natural_as : (l m : ℕ) (v w : ℤ) → 0 < l → pos l *ℤ v ≡ pos m *ℤ w → pos 0 ≤ℤ w → pos 0 ≤ℤ v
natural_as l m v w h e high =
    ge-zero_of_mul (pos l) v (omega (arith, ints)) (subst (λ (z : ℤ). pos 0 ≤ℤ z) (sym e) (mul-ge-zero (pos m) w (omega (arith, ints)) high))

-- a constant has the sign of its basic variable
negative_constant : (d v : ℤ) (m : ℕ) (b : ℤ) → pos 0 <ℤ d → 0 < m → d *ℤ v ≡ pos m *ℤ b → v <ℤ pos 0 → b <ℤ pos 0
negative_constant d v m b h k e low =
    let less : (d *ℤ v) <ℤ pos 0 = omega (arith, ints, mul-neg d v, product_positive d (neg_ℤ v) h (omega (arith, ints))) in
    lt-zero_of_mul (pos m) b (omega (arith, ints)) (subst (λ (z : ℤ). z <ℤ pos 0) e less)

natural_constant : (d v : ℤ) (m : ℕ) (b : ℤ) → pos 0 <ℤ d → 0 < m → d *ℤ v ≡ pos m *ℤ b → pos 0 ≤ℤ v → pos 0 ≤ℤ b
natural_constant d v m b h k e high =
    ge-zero_of_mul (pos m) b (omega (arith, ints)) (subst (λ (z : ℤ). pos 0 ≤ℤ z) e (mul-ge-zero d v (omega (arith, ints)) high))

-- a variable is natural there if it is among unknowns and rows that hold
pub natural_variable : (s : System) (t d : Tableau) (scale : ℕ) (values : List ℤ) (x : Vertex s t) → IsRevised s t d → IsScale scale d.rows
    → AreValues scale d.rows values → (v units slacks : ℕ) → v < variables s → UnknownsHold values units → RowsHold scale values s.rows slacks
    → (v < s.unknowns → v < units) → ((k : ℕ) → v ≡ s.unknowns + k → k < slacks) → pos 0 ≤ℤ x.value v
natural_variable s t d scale values x revised is are v units slacks below unknowns rows one other =
    elim (cases_lt v s.unknowns) [
      | inl unknown ↦
          natural_as scale x.m (x.value v) (get_or values v (pos 0)) is.positive (unknown_at_vertex s t d scale values x revised are v unknown)
          (unknowns v (one unknown))
      | inr slack ↦
          let e : v ≡ s.unknowns + (v - s.unknowns) = omega arith in
          let inside : v - s.unknowns < slacks = other (v - s.unknowns) e in
          elim (slice_get_cases s.rows (v - s.unknowns)).1 [
            | inl found ↦
                let high : pos 0 ≤ℤ row_value scale values found.0 = rw found.2 at (rows (v - s.unknowns) inside) in
                subst (λ (w : ℕ). pos 0 ≤ℤ x.value w) (sym e)
                (natural_as scale x.m (x.value (s.unknowns + (v - s.unknowns))) (row_value scale values found.0) is.positive
                (slack_at_vertex s t d scale values x revised are (v - s.unknowns) found.0 found.2) high)
            | inr past ↦ (let p = past.0 in absurd (omega arith))
          ]
    ]

-- a negative variable is basic, and its row leaves if those of lesser variables have no negative constants
pub negative_variable : (s : System) (t : Tableau) (x : Vertex s t) → DictionaryOf s t → (v : ℕ) → v < variables s → x.value v <ℤ pos 0
    → ((w : ℕ) → w < variables s → w < v → pos 0 ≤ℤ x.value w) → LeavesAs t v
negative_variable s t x d v below low least =
    elim (d.basis.cover v below) [
      | inl p ↦
          let e : basic_of t p.0 ≡ v = p.2 in
          record {
            row = p.0;
            is = p.2;
            leaves = record {
              below = p.1;
              negative = negative_constant (row_of t p.0).denominator (x.value (basic_of t p.0)) x.m (row_of t p.0).constant (d.rows p.0 p.1).positive x.some
                  (row_at_vertex s t x (row_of t p.0) (d.rows p.0 p.1)) (subst (λ (w : ℕ). x.value w <ℤ pos 0) (sym e) low);
              least = λ i h less. natural_constant (row_of t i).denominator (x.value (basic_of t i)) x.m (row_of t i).constant (d.rows i h).positive x.some
                  (row_at_vertex s t x (row_of t i) (d.rows i h)) (least (basic_of t i) (d.basis.basic_below i h) (omega arith));
            };
          }
      | inr p ↦
          let zero : x.value (non_basic_of t p.0) ≡ pos 0 = x.zeros p.0 p.1 in
          let e : x.value (non_basic_of t p.0) ≡ x.value v = ap x.value p.2 in
          absurd (omega (arith, ints, low, zero, e))
    ]

pub least_leaves : (s : System) (t d : Tableau) (scale : ℕ) (values : List ℤ) (v : ℕ) → IsRevised s t d → IsScale scale d.rows
    → AreValues scale d.rows values → IsLeastNegative scale s values v → LeavesAs t v
least_leaves s t d scale values v revised is are least =
    let x = vertex_of s t revised.dictionary in
    elim least [
      | inl unknown ↦ unknown_leaves x unknown
      | inr slack ↦ slack_leaves x slack
    ]
  where
    unknown_leaves : Vertex s t → IsNegativeUnknown s values v → LeavesAs t v
    unknown_leaves x u =
        let inside : v < s.unknowns = u.below in
        negative_variable s t x revised.dictionary v (omega arith)
        (negative_as scale x.m (x.value v) (get_or values v (pos 0)) is.positive x.some (unknown_at_vertex s t d scale values x revised are v inside)
        u.negative)
        (λ w below less. natural_variable s t d scale values x revised is are w v 0 below u.least (λ i h. absurd (omega arith)) (λ _. less)
        (λ k e. absurd (omega arith)))

    slack_leaves : Vertex s t → IsNegativeSlack scale s values v → LeavesAs t v
    slack_leaves x k =
        let inside : k.row < length s.rows = k.below in
        let e : v ≡ s.unknowns + k.row = k.is in
        let low : x.value (s.unknowns + k.row) <ℤ pos 0 = elim (slice_get_cases s.rows k.row).1 [
          | inl found ↦
              let less : row_value scale values found.0 <ℤ pos 0 = rw found.2 at k.negative in
              negative_as scale x.m (x.value (s.unknowns + k.row)) (row_value scale values found.0) is.positive x.some
              (slack_at_vertex s t d scale values x revised are k.row found.0 found.2) less
          | inr past ↦ (let p = past.0 in absurd (omega arith))
        ] in
        negative_variable s t x revised.dictionary v (omega arith) (subst (λ (w : ℕ). x.value w <ℤ pos 0) (sym e) low)
        (λ w below less. natural_variable s t d scale values x revised is are w s.unknowns k.row below k.unknowns k.least (λ h. h) (λ j f. omega arith))

pub none_leaves : (s : System) (t d : Tableau) (scale : ℕ) (values : List ℤ) → IsRevised s t d → IsScale scale d.rows → AreValues scale d.rows values
    → NoneIsNegative scale s values → NoneLeaves t
none_leaves s t d scale values revised is are none i h =
    let x = vertex_of s t revised.dictionary in
    let row = revised.dictionary.rows i h in
    let below = revised.dictionary.basis.basic_below i h in
    natural_constant (row_of t i).denominator (x.value (basic_of t i)) x.m (row_of t i).constant row.positive x.some (row_at_vertex s t x (row_of t i) row)
    (natural_variable s t d scale values x revised is are (basic_of t i) s.unknowns (length s.rows) below none.unknowns none.rows (λ u. u) (λ k e. omega arith))

pub negatives_leave : NegativesLeave
negatives_leave = record {
  least = λ s t d scale values v revised is are negative. least_leaves s t d scale values v revised is are negative;
  none = λ s t d scale values revised is are none. none_leaves s t d scale values revised is are none;
}
