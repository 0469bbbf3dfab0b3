use Rattle.ta_dense.proofs.Common.{◌≡◌, ◌⊎◌, inl, inr, ℕ, zero, suc, ◌+◌, ◌-◌, ◌<◌, ◌≤◌, List, [], ◌∷◌, length, map, get_or, arith, refl, sym, ap, ◌∙◌, subst}
use Rattle.ta_dense.proofs.Common.{ℤ, pos, ◌+ℤ◌, ◌*ℤ◌, range_with_len, cases_lt, cases_eq, ints, length-map, length-range_with_len, get_or-range_with_len}
use Rattle.ta_dense.proofs.Common.{eq-one_of_dvd-one, expand, single, single-at, single-elsewhere, coefficient, IsNormal, AllBelow, IsNormal-le, Row, System}
use Rattle.ta_dense.proofs.Common.{◌∣◌, TableauRow, no_row, IsPrimitive, dot, IsDictionary, EquationHolds, slack_tableau, slack_rows, coefficients, variables}
use Rattle.ta_dense.proofs.Common.{IsAssignment, SlacksFollow, slack_at, unsigned_abs}
use Rattle.ta_linear.specs.Values.{terms_value}

dot-map-add : (f g : ℕ → ℤ) (us : List ℕ) (value : ℕ → ℤ) → dot (map (λ v. f v +ℤ g v) us) us value ≡ dot (map f us) us value +ℤ dot (map g us) us value
dot-map-add f g [] value = refl
dot-map-add f g (u ∷ us) value = simp expand (omega (arith, ints, dot-map-add f g us value))

dot-single-none : (x : ℕ) (y : ℤ) (a n : ℕ) (value : ℕ → ℤ) → x < a → dot (map (single x y) (range_with_len a n)) (range_with_len a n) value ≡ pos 0
dot-single-none x y a zero value h = refl
dot-single-none x y a (suc n) value h = rw (single-elsewhere x a y (omega arith), dot-single-none x y (a + 1) n value (omega arith)) (omega (arith, ints))

dot-single : (x : ℕ) (y : ℤ) (a n : ℕ) (value : ℕ → ℤ) → a ≤ x → x < a + n
    → dot (map (single x y) (range_with_len a n)) (range_with_len a n) value ≡ y *ℤ value x
dot-single x y a zero value h k = absurd (omega arith)
dot-single x y a (suc n) value h k =
    elim (cases_eq x a) [
      | inl here ↦ rw (single-at x a y here, dot-single-none x y (a + 1) n value (omega arith), here) (omega (arith, ints))
      | inr later ↦ rw (single-elsewhere x a y later, dot-single x y (a + 1) n value (omega arith) (omega arith)) (omega (arith, ints))
    ]

dot-zeros : (us : List ℕ) (value : ℕ → ℤ) → dot (map (λ _. pos 0) us) us value ≡ pos 0
dot-zeros [] value = refl
dot-zeros (u ∷ us) value = omega (arith, ints, dot-zeros us value)

dot-coefficients : (low n : ℕ) (ts : List (ℕ × ℤ)) (value : ℕ → ℤ) → IsNormal low n ts
    → dot (coefficients n ts) (range_with_len 0 n) value ≡ terms_value value ts
unfolding single
dot-coefficients low n [] value normal = dot-zeros (range_with_len 0 n) value
dot-coefficients low n (t ∷ ts) value normal =
    let first = dot-single t.0 t.1 0 n value (omega arith) (let h = IsNormal-le (t.0 + 1) n ts normal.2 in omega arith) in
    dot-map-add (single t.0 t.1) (coefficient ts) (range_with_len 0 n) value ∙ (rw (first, dot-coefficients (t.0 + 1) n ts value normal.2) refl)

pub length-slack_rows : (n v : ℕ) (rs : List Row) → length (slack_rows n v rs) ≡ length rs
length-slack_rows n v [] = refl
length-slack_rows n v (r ∷ rs) = ap suc (length-slack_rows n (suc v) rs)

-- what is known of the row at a place
slack_row : (n v : ℕ) (rs : List Row) (i : ℕ) → i < length rs →
    ((get_or (slack_rows n v rs) i no_row).basic ≡ v + i) × ((get_or (slack_rows n v rs) i no_row).denominator ≡ pos 1)
    × (length (get_or (slack_rows n v rs) i no_row).cells ≡ n)
slack_row n v [] i h = absurd (omega arith)
slack_row n v (r ∷ rs) zero h = (omega arith, refl, length-map (range_with_len 0 n) (coefficient r.form.terms) ∙ length-range_with_len 0 n)
slack_row n v (r ∷ rs) (suc i) h = let k = slack_row n (suc v) rs i (omega arith) in (k.0 ∙ omega arith, k.1, k.2)

slack_holds : (n v : ℕ) (rs : List Row) (scale : ℤ) (value : ℕ → ℤ) → AllBelow n rs → SlacksFollow rs v scale value → (i : ℕ) → i < length rs →
    EquationHolds (range_with_len 0 n) (get_or (slack_rows n v rs) i no_row) scale value
slack_holds n v [] scale value below a i h = absurd (omega arith)
slack_holds n v (r ∷ rs) scale value below a zero h =
    let e = dot-coefficients 0 n r.form.terms value below.0 in
    let k = a.0 in
    rw e (omega (arith, ints, k))
slack_holds n v (r ∷ rs) scale value below a (suc i) h = slack_holds n (suc v) rs scale value below.1 a.1 i (omega arith)

-- the value of the slack at a place
unfoldable pub slack_value : List Row → ℤ → (ℕ → ℤ) → ℕ → ℤ
slack_value [] scale want i = pos 0
slack_value (r ∷ rs) scale want zero = slack_at r scale want
slack_value (r ∷ rs) scale want (suc i) = slack_value rs scale want i

pub terms_value-same : (low n : ℕ) (ts : List (ℕ × ℤ)) (f g : ℕ → ℤ) → IsNormal low n ts → ((v : ℕ) → v < n → f v ≡ g v) → terms_value f ts ≡ terms_value g ts
terms_value-same low n [] f g normal same = refl
terms_value-same low n (t ∷ ts) f g normal same = rw
    (same t.0 (let h = IsNormal-le (t.0 + 1) n ts normal.2 in omega arith), terms_value-same (t.0 + 1) n ts f g normal.2 same) refl

pub slacks_follow : (n v : ℕ) (rs : List Row) (scale : ℤ) (value want : ℕ → ℤ) → AllBelow n rs → ((u : ℕ) → u < n → value u ≡ want u)
    → ((i : ℕ) → value (v + i) ≡ slack_value rs scale want i) → SlacksFollow rs v scale value
unfolding slack_value
slacks_follow n v [] scale value want below same follow = tt
slacks_follow n v (r ∷ rs) scale value want below same follow = (
  ap value (omega arith) ∙ follow 0 ∙ ap (λ (z : ℤ). z +ℤ scale *ℤ r.form.constant) (sym (terms_value-same 0 n r.form.terms value want below.0 same)),
  slacks_follow n (suc v) rs scale value want below.1 same (λ i. ap value (omega arith) ∙ follow (suc i)),
)

-- the unknowns as wanted, and the slacks as they follow
unfoldable pub extended_by : (u v : ℕ) (rs : List Row) (scale : ℤ) (want : ℕ → ℤ) → (v < u) ⊎ (u ≤ v) → ℤ
extended_by u v rs scale want (inl unknown) = want v
extended_by u v rs scale want (inr slack) = slack_value rs scale want (v - u)

unfoldable pub extended : ℕ → List Row → ℤ → (ℕ → ℤ) → ℕ → ℤ
extended u rs scale want v = extended_by u v rs scale want (cases_lt v u)

pub extended-unknown : (u : ℕ) (rs : List Row) (scale : ℤ) (want : ℕ → ℤ) (v : ℕ) → v < u → extended u rs scale want v ≡ want v
unfolding extended extended_by
extended-unknown u rs scale want v h = go (cases_lt v u)
  where
    go : (x : (v < u) ⊎ (u ≤ v)) → extended_by u v rs scale want x ≡ want v
    go (inl unknown) = refl
    go (inr slack) = absurd (omega arith)

pub extended-slack : (u : ℕ) (rs : List Row) (scale : ℤ) (want : ℕ → ℤ) (i : ℕ) → extended u rs scale want (u + i) ≡ slack_value rs scale want i
unfolding extended extended_by
extended-slack u rs scale want i = go (cases_lt (u + i) u)
  where
    go : (x : (u + i < u) ⊎ (u ≤ u + i)) → extended_by u (u + i) rs scale want x ≡ slack_value rs scale want i
    go (inl unknown) = absurd (omega arith)
    go (inr slack) = ap (slack_value rs scale want) (omega arith)

primitive_one : (r : TableauRow) → r.denominator ≡ pos 1 → IsPrimitive r
primitive_one r e k d = eq-one_of_dvd-one (subst (λ (z : ℤ). k ∣ unsigned_abs z) e d.denominator)

-- the tableau in which every slack is basic
pub IsDictionary-slack : (s : System) → IsDictionary (IsAssignment s) (variables s) (slack_tableau s)
unfolding slack_tableau
IsDictionary-slack s =
    let below = s.within in
    let rows = length-slack_rows s.unknowns s.unknowns s.rows in
    let columns = length-range_with_len 0 s.unknowns in
    let row = λ (i : ℕ) (h : i < length (slack_rows s.unknowns s.unknowns s.rows)). slack_row s.unknowns s.unknowns s.rows i (omega arith) in
    let column = λ (j : ℕ) (h : j < length (range_with_len 0 s.unknowns)). get_or-range_with_len 0 s.unknowns j 0 (omega arith) in
    record {
      rows = λ i h. record {
        positive = rw (row i h).1 (omega (arith, ints));
        long = (row i h).2 ∙ sym columns;
        primitive = primitive_one (get_or (slack_rows s.unknowns s.unknowns s.rows) i no_row) (row i h).1;
        holds = λ scale value a. slack_holds s.unknowns s.unknowns s.rows scale value below a i (omega arith);
      };
      basis = record {
        basic_below = λ i h. (let e = (row i h).0 in omega arith);
        non_basic_below = λ j h. (let e = column j h in omega arith);
        cover = λ v h. (elim (cases_lt v s.unknowns) [
          | inl unknown ↦ inr (v, omega arith, get_or-range_with_len 0 s.unknowns v 0 unknown ∙ omega arith)
          | inr slack ↦ inl (v - s.unknowns, omega arith, (slack_row s.unknowns s.unknowns s.rows (v - s.unknowns) (omega arith)).0 ∙ omega arith)
        ]);
        apart = λ i j h k e. (let a = (row i h).0 in let b = column j k in absurd (omega arith));
        basic_once = λ i j h k e. (let a = (row i h).0 in let b = (row j k).0 in omega arith);
        non_basic_once = λ i j h k e. (let a = column i h in let b = column j k in omega arith);
      };
      free = λ scale want. (
        1,
        extended s.unknowns s.rows scale want,
        omega arith,
        (let e : scale ≡ pos 1 *ℤ scale = omega (arith, ints) in subst (λ (z : ℤ). IsAssignment s z (extended s.unknowns s.rows scale want)) e
            (slacks_follow s.unknowns s.unknowns s.rows scale (extended s.unknowns s.rows scale want) want below (extended-unknown s.unknowns s.rows scale want)
            (extended-slack s.unknowns s.rows scale want))),
        λ j h. (let e = column j h in extended-unknown s.unknowns s.rows scale want (get_or (range_with_len 0 s.unknowns) j 0) (omega arith)
            ∙ omega (arith, ints)),
      );
    }
