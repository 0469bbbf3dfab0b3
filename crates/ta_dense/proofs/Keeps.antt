use Rattle.ta_dense.proofs.Common.{◌≡◌, ◌≢◌, ◌⊎◌, inl, inr, ℕ, suc, ◌*◌, ◌<◌, length, map, arith, refl, sym, ap, ◌∙◌, subst, ℤ, pos, ◌+ℤ◌, ◌*ℤ◌, ◌-ℤ◌, neg_ℤ}
use Rattle.ta_dense.proofs.Common.{◌<ℤ◌, get_or-set_same, get_or-set_other, cases_eq, length-map, length-set, get_or-map, cancel_positive, leaving_arith}
use Rattle.ta_dense.proofs.Common.{pos_out, product_positive, times_assoc, factor_divisor, TableauRow, Tableau, cell_of, turned, merged, row_of, no_row}
use Rattle.ta_dense.proofs.Common.{pivoted, basic_of, non_basic_of, IsPrimitive, dot, IsDictionary, int_div}
use Rattle.std.proofs.Common.{cond, eq-eqb, eqb}
use Rattle.std.proofs.lemmas.Bool.{cond-false, cond-true, ne_eqb}
use Rattle.ta_dense.proofs.Dot.{dot-change, dot-scaled}
use Rattle.ta_dense.proofs.PivotLaws.{Holds-turned}
use Rattle.ta_dense.proofs.MergedRow.{Good, Good-merged, merged_cases, merged_with}
use Rattle.ta_dense.proofs.ReduceFacts.{factors_positive}
use Rattle.ta_dense.proofs.Primitive.{IsPrimitive-turned, IsPrimitive-merged}
use Rattle.std.proofs.Math.Nat.{mul-suc}

-- the rows after a pivot
pub row_at : (t : Tableau) (row column : ℕ) → row < length t.rows → row_of (pivoted t row column) row ≡ turned (non_basic_of t column) column (row_of t row)
row_at t row column h =
    let long = length-map t.rows (merged column (row_of t row)) in
    get_or-set_same (map (merged column (row_of t row)) t.rows) row (turned (non_basic_of t column) column (row_of t row)) no_row (omega arith)

pub row_elsewhere : (t : Tableau) (row column i : ℕ) → i ≢ row → i < length t.rows → row_of (pivoted t row column) i ≡ merged column (row_of t row) (row_of t i)
row_elsewhere t row column i apart h =
    get_or-set_other (map (merged column (row_of t row)) t.rows) row i (turned (non_basic_of t column) column (row_of t row)) no_row apart
    ∙ get_or-map (merged column (row_of t row)) t.rows i no_row no_row h

pub row_count : (t : Tableau) (row column : ℕ) → length (pivoted t row column).rows ≡ length t.rows
row_count t row column = length-set (map (merged column (row_of t row)) t.rows) row _ ∙ length-map t.rows (merged column (row_of t row))

pub column_count : (t : Tableau) (row column : ℕ) → length (pivoted t row column).non_basic ≡ length t.non_basic
column_count t row column = length-set t.non_basic column (basic_of t row)

pub merged_basic : (column : ℕ) (chosen r : TableauRow) → (merged column chosen r).basic ≡ r.basic
merged_basic column chosen r = elim (merged_cases column chosen r)
    [ inl stays ↦ ap (λ (x : TableauRow). x.basic) stays.1 | inr is ↦ ap (λ (x : TableauRow). x.basic) is ]

pub basic_at : (t : Tableau) (row column : ℕ) → row < length t.rows → basic_of (pivoted t row column) row ≡ non_basic_of t column
basic_at t row column h = ap (λ (x : TableauRow). x.basic) (row_at t row column h)

pub basic_elsewhere : (t : Tableau) (row column i : ℕ) → i ≢ row → i < length t.rows → basic_of (pivoted t row column) i ≡ basic_of t i
basic_elsewhere t row column i apart h = ap (λ (x : TableauRow). x.basic) (row_elsewhere t row column i apart h)
    ∙ merged_basic column (row_of t row) (row_of t i)

pub non_basic_at : (t : Tableau) (row column : ℕ) → column < length t.non_basic → non_basic_of (pivoted t row column) column ≡ basic_of t row
non_basic_at t row column h = get_or-set_same t.non_basic column (basic_of t row) 0 h

pub non_basic_elsewhere : (t : Tableau) (row column j : ℕ) → j ≢ column → non_basic_of (pivoted t row column) j ≡ non_basic_of t j
non_basic_elsewhere t row column j apart = get_or-set_other t.non_basic column j (basic_of t row) 0 apart

good_row : (A : ℤ → (ℕ → ℤ) → Type 0) (n : ℕ) (t : Tableau) → IsDictionary A n t → (i : ℕ) → i < length t.rows → Good A t.non_basic (row_of t i)
good_row A n t d i h = record { positive = (d.rows i h).positive; long = (d.rows i h).long; holds = (d.rows i h).holds }

good_after : (A : ℤ → (ℕ → ℤ) → Type 0) (n : ℕ) (t : Tableau) (row column : ℕ) → IsDictionary A n t → row < length t.rows → column < length t.non_basic
    → pos 0 <ℤ cell_of (row_of t row) column →
    (i : ℕ) → i < length t.rows → Good A (pivoted t row column).non_basic (row_of (pivoted t row column) i)
good_after A n t row column d h k positive i below =
    elim (cases_eq i row) [
      | inl same ↦
          let long = (d.rows row h).long in
          rw (same, row_at t row column h) record {
            positive = positive;
            long = length-set (map neg_ℤ (row_of t row).cells) column _ ∙ length-map (row_of t row).cells neg_ℤ ∙ long
                ∙ sym (length-set t.non_basic column (basic_of t row));
            holds = λ scale value a. Holds-turned t.non_basic (row_of t row) column scale value (omega arith) (sym long) ((d.rows row h).holds scale value a);
          }
      | inr apart ↦ rw (row_elsewhere t row column i apart below)
          (Good-merged A t.non_basic (row_of t row) (row_of t i) column k positive (good_row A n t d row h) (good_row A n t d i below))
    ]

primitive_after : (A : ℤ → (ℕ → ℤ) → Type 0) (n : ℕ) (t : Tableau) (row column : ℕ) → IsDictionary A n t → row < length t.rows → column < length t.non_basic
    → pos 0 <ℤ cell_of (row_of t row) column →
    (i : ℕ) → i < length t.rows → IsPrimitive (row_of (pivoted t row column) i)
primitive_after A n t row column d h k positive i below =
    let chosen = row_of t row in
    let wide : column < length (row_of t row).cells = (let e = (d.rows row h).long in omega arith) in
    elim (cases_eq i row) [
      | inl same ↦ rw (same, row_at t row column h) (IsPrimitive-turned column (non_basic_of t column) chosen wide (d.rows row h).primitive)
      | inr apart ↦
          let r = row_of t i in
          let p : pos 0 <ℤ (merged_with (cell_of (row_of t i) column) column (row_of t row) (row_of t i)).denominator =
          product_positive (int_div (cell_of chosen column) (pos (factor_divisor (cell_of chosen column) (cell_of r column)))) r.denominator
          (factors_positive (cell_of chosen column) (cell_of r column) positive).1 (d.rows i below).positive in
          rw (row_elsewhere t row column i apart below) (IsPrimitive-merged column chosen r p (d.rows i below).primitive)
    ]

-- the choice for the old non-basic variables
unfoldable pick : ℕ → ℤ → ℤ → (ℕ → ℤ) → ℕ → ℤ
pick e entering c want v = cond (eqb v e) entering (c *ℤ want v)

pick-at : (e : ℕ) (entering c : ℤ) (want : ℕ → ℤ) (v : ℕ) → v ≡ e → pick e entering c want v ≡ entering
unfolding pick
pick-at e entering c want v h = cond-true (eqb v e) entering (c *ℤ want v) (eq-eqb v e h)

pick-elsewhere : (e : ℕ) (entering c : ℤ) (want : ℕ → ℤ) (v : ℕ) → v ≢ e → pick e entering c want v ≡ c *ℤ want v
unfolding pick
pick-elsewhere e entering c want v h = cond-false (eqb v e) entering (c *ℤ want v) (ne_eqb v e h)

free_after : (A : ℤ → (ℕ → ℤ) → Type 0) (n : ℕ) (t : Tableau) (row column : ℕ) → IsDictionary A n t → row < length t.rows → column < length t.non_basic
    → pos 0 <ℤ cell_of (row_of t row) column →
    (scale : ℤ) (want : ℕ → ℤ) → (m : ℕ) × (value : (ℕ → ℤ)) × (0 < m) × A (pos m *ℤ scale) value ×
    ((j : ℕ) → j < length (pivoted t row column).non_basic
    → value (non_basic_of (pivoted t row column) j) ≡ pos m *ℤ want (non_basic_of (pivoted t row column) j))
free_after A n t row column d h k positive scale want =
    let r = row_of t row in
    let e = non_basic_of t column in
    let l = basic_of t row in
    let c = cell_of r column in
    let w = dot r.cells t.non_basic want in
    let entering = r.denominator *ℤ want l -ℤ scale *ℤ r.constant -ℤ w +ℤ c *ℤ want e in
    let choice = pick e entering c want in
    let f = d.free (c *ℤ scale) choice in
    let cn = pos_out c positive in
    let m = f.0 in
    let value = f.1 in
    let equation = (d.rows row h).holds (pos m *ℤ (c *ℤ scale)) value f.3 in
    let h2 = dot-scaled r.cells t.non_basic value choice (pos m) f.4 in
    let h3 = dot-change r.cells t.non_basic choice (λ v. c *ℤ want v) column k ((d.rows row h).long)
    (λ j inside apart. pick-elsewhere e entering c want (non_basic_of t j) (λ same. apart (d.basis.non_basic_once j column inside k same))) in
    let h3' = rw (pick-at e entering c want e refl) at h3 in
    let h4 = dot-scaled r.cells t.non_basic (λ v. c *ℤ want v) want c (λ j inside. refl) in
    let leaving : value l ≡ (pos m *ℤ c) *ℤ want l = cancel_positive r.denominator (value l) ((pos m *ℤ c) *ℤ want l) ((d.rows row h).positive)
    (leaving_arith r.denominator (value l) (pos m) c scale r.constant (dot r.cells t.non_basic value) (dot r.cells t.non_basic choice)
    (dot r.cells t.non_basic (λ v. c *ℤ want v)) w (want l) (want e) equation h2 h3' h4) in
    let same_scale : pos m *ℤ (c *ℤ scale) ≡ pos (m * suc cn.0) *ℤ scale = sym (times_assoc (pos m) c scale) ∙ ap (λ (z : ℤ). (pos m *ℤ z) *ℤ scale) cn.1 in (
      m * suc cn.0,
      value,
      (let some = f.2 in omega (arith, mul-suc m cn.0)),
      subst (λ (s : ℤ). A s value) same_scale f.3,
      λ j inside. (elim (cases_eq j column) [
        | inl here ↦ rw (here, non_basic_at t row column k) (leaving ∙ ap (λ (z : ℤ). (pos m *ℤ z) *ℤ want l) cn.1)
        | inr apart ↦
            let inside' : j < length t.non_basic = (let e' = column_count t row column in omega arith) in
            rw (non_basic_elsewhere t row column j apart)
            (f.4 j inside' ∙ ap (λ (z : ℤ). pos m *ℤ z)
            (pick-elsewhere e entering c want (non_basic_of t j) (λ same. apart (d.basis.non_basic_once j column inside' k same)))
            ∙ sym (times_assoc (pos m) c (want (non_basic_of t j))) ∙ ap (λ (z : ℤ). (pos m *ℤ z) *ℤ want (non_basic_of t j)) cn.1)
      ]),
    )

-- where the variables stand after a pivot
basic_after : (A : ℤ → (ℕ → ℤ) → Type 0) (n : ℕ) (t : Tableau) (row column : ℕ) → row < length t.rows → (i : ℕ) → i < length t.rows →
    ((i ≡ row) × (basic_of (pivoted t row column) i ≡ non_basic_of t column)) ⊎ ((i ≢ row) × (basic_of (pivoted t row column) i ≡ basic_of t i))
basic_after A n t row column h i below =
    elim (cases_eq i row) [
      | inl same ↦ inl (same, ap (basic_of (pivoted t row column)) same ∙ basic_at t row column h)
      | inr apart ↦ inr (apart, basic_elsewhere t row column i apart below)
    ]

non_basic_after : (t : Tableau) (row column : ℕ) → column < length t.non_basic → (j : ℕ) →
    ((j ≡ column) × (non_basic_of (pivoted t row column) j ≡ basic_of t row)) ⊎ ((j ≢ column) × (non_basic_of (pivoted t row column) j ≡ non_basic_of t j))
non_basic_after t row column k j =
    elim (cases_eq j column) [
      | inl same ↦ inl (same, ap (non_basic_of (pivoted t row column)) same ∙ non_basic_at t row column k)
      | inr apart ↦ inr (apart, non_basic_elsewhere t row column j apart)
    ]

cover_after : (A : ℤ → (ℕ → ℤ) → Type 0) (n : ℕ) (t : Tableau) (row column : ℕ) → IsDictionary A n t → row < length t.rows → column < length t.non_basic
    → (v : ℕ) → v < n →
    ((i : ℕ) × (i < length (pivoted t row column).rows) × (basic_of (pivoted t row column) i ≡ v))
    ⊎ ((j : ℕ) × (j < length (pivoted t row column).non_basic) × (non_basic_of (pivoted t row column) j ≡ v))
cover_after A n t row column d h k v below =
    let rows = row_count t row column in
    let columns = column_count t row column in
    elim (d.basis.cover v below) [
      | inl b ↦ elim (cases_eq b.0 row) [
        | inl same ↦ inr (column, omega arith, non_basic_at t row column k ∙ ap (basic_of t) (sym same) ∙ b.2)
        | inr apart ↦ inl (b.0, (let e = b.1 in omega arith), basic_elsewhere t row column b.0 apart b.1 ∙ b.2)
      ]
      | inr c ↦ elim (cases_eq c.0 column) [
        | inl same ↦ inl (row, omega arith, basic_at t row column h ∙ ap (non_basic_of t) (sym same) ∙ c.2)
        | inr apart ↦ inr (c.0, (let e = c.1 in omega arith), non_basic_elsewhere t row column c.0 apart ∙ c.2)
      ]
    ]

apart_after : (A : ℤ → (ℕ → ℤ) → Type 0) (n : ℕ) (t : Tableau) (row column : ℕ) → IsDictionary A n t → row < length t.rows → column < length t.non_basic →
    (i j : ℕ) → i < length t.rows → j < length t.non_basic → basic_of (pivoted t row column) i ≢ non_basic_of (pivoted t row column) j
apart_after A n t row column d h k i j below inside e =
    elim (basic_after A n t row column h i below) [
      | inl b ↦ elim (non_basic_after t row column k j) [
        | inl c ↦ d.basis.apart row column h k (sym c.1 ∙ sym e ∙ b.1)
        | inr c ↦ c.0 (d.basis.non_basic_once j column inside k (sym c.1 ∙ sym e ∙ b.1))
      ]
      | inr b ↦ elim (non_basic_after t row column k j) [
        | inl c ↦ b.0 (d.basis.basic_once i row below h (sym b.1 ∙ e ∙ c.1))
        | inr c ↦ d.basis.apart i j below inside (sym b.1 ∙ e ∙ c.1)
      ]
    ]

basic_once_after : (A : ℤ → (ℕ → ℤ) → Type 0) (n : ℕ) (t : Tableau) (row column : ℕ) → IsDictionary A n t → row < length t.rows → column < length t.non_basic →
    (i j : ℕ) → i < length t.rows → j < length t.rows → basic_of (pivoted t row column) i ≡ basic_of (pivoted t row column) j → i ≡ j
basic_once_after A n t row column d h k i j below inside e =
    elim (basic_after A n t row column h i below) [
      | inl b ↦ elim (basic_after A n t row column h j inside) [
        | inl c ↦ b.0 ∙ sym c.0
        | inr c ↦ absurd (d.basis.apart j column inside k (sym c.1 ∙ sym e ∙ b.1))
      ]
      | inr b ↦ elim (basic_after A n t row column h j inside) [
        | inl c ↦ absurd (d.basis.apart i column below k (sym b.1 ∙ e ∙ c.1))
        | inr c ↦ d.basis.basic_once i j below inside (sym b.1 ∙ e ∙ c.1)
      ]
    ]

non_basic_once_after : (A : ℤ → (ℕ → ℤ) → Type 0) (n : ℕ) (t : Tableau) (row column : ℕ) → IsDictionary A n t → row < length t.rows
    → column < length t.non_basic →
    (i j : ℕ) → i < length t.non_basic → j < length t.non_basic → non_basic_of (pivoted t row column) i ≡ non_basic_of (pivoted t row column) j → i ≡ j
non_basic_once_after A n t row column d h k i j below inside e =
    elim (non_basic_after t row column k i) [
      | inl b ↦ elim (non_basic_after t row column k j) [
        | inl c ↦ b.0 ∙ sym c.0
        | inr c ↦ absurd (d.basis.apart row j h inside (sym b.1 ∙ e ∙ c.1))
      ]
      | inr b ↦ elim (non_basic_after t row column k j) [
        | inl c ↦ absurd (d.basis.apart row i h below (sym c.1 ∙ sym e ∙ b.1))
        | inr c ↦ d.basis.non_basic_once i j below inside (sym b.1 ∙ e ∙ c.1)
      ]
    ]

-- a pivot on a positive cell keeps a dictionary
pub IsDictionary-pivoted : (A : ℤ → (ℕ → ℤ) → Type 0) (n : ℕ) (t : Tableau) (row column : ℕ) → IsDictionary A n t → row < length t.rows
    → column < length t.non_basic → pos 0 <ℤ cell_of (row_of t row) column →
    IsDictionary A n (pivoted t row column)
IsDictionary-pivoted A n t row column d h k positive =
    let rows = row_count t row column in
    let columns = column_count t row column in
    let good = λ (i : ℕ) (below : i < length (pivoted t row column).rows). good_after A n t row column d h k positive i (omega arith) in
    record {
      rows = λ i below. record {
        positive = (good i below).positive;
        long = (good i below).long;
        primitive = primitive_after A n t row column d h k positive i (omega arith);
        holds = (good i below).holds;
      };
      basis = record {
        basic_below = λ i below. (elim (cases_eq i row) [
          | inl same ↦ rw (same, basic_at t row column h) (d.basis.non_basic_below column k)
          | inr apart ↦ (let inside : i < length t.rows = omega arith in rw (basic_elsewhere t row column i apart inside) (d.basis.basic_below i inside))
        ]);
        non_basic_below = λ j below. (elim (cases_eq j column) [
          | inl same ↦ rw (same, non_basic_at t row column k) (d.basis.basic_below row h)
          | inr apart ↦ rw (non_basic_elsewhere t row column j apart) (d.basis.non_basic_below j (omega arith))
        ]);
        cover = cover_after A n t row column d h k;
        apart = λ i j below inside. apart_after A n t row column d h k i j (omega arith) (omega arith);
        basic_once = λ i j below inside. basic_once_after A n t row column d h k i j (omega arith) (omega arith);
        non_basic_once = λ i j below inside. non_basic_once_after A n t row column d h k i j (omega arith) (omega arith);
      };
      free = free_after A n t row column d h k positive;
    }
