-- filling the places of the rows, and listing those that are not 0
use Rattle.ta_simplex.proofs.Common.{◌≡◌, ◌≢◌, ◌⊎◌, inl, inr, ℕ, ◌+◌, ◌-◌, ◌<◌, ◌≤◌, List, [], ◌∷◌, ◌++◌, length, set, Bool, true, false, cond, nat_lt, arith}
use Rattle.ta_simplex.proofs.Common.{sym, ap, ◌∙◌, ℤ, pos, ◌≤ℤ◌, neg_ℤ, get_or-set_same, get_or-set_other, cases_lt, cases_eq, nat_tests, eqb_tells, ints}
use Rattle.ta_simplex.proofs.Common.{length-set, at_least_one, unsigned_abs-neg, InRange, coefficient, AreMultipliers, IsNormal-push, IsNormal-higher}
use Rattle.ta_simplex.proofs.Common.{coefficient-append, coefficient-above, Tableau, row_of, cell_of, basic_of, non_basic_of, NoneEnters, IsBasis, slot, put}
use Rattle.ta_simplex.proofs.Common.{AreNatural, FillSlots, ListsSlots, replicate, length-replicate, zeros_past}

-- what a place holds after a number is put
after_set : (ms : List ℤ) (p k : ℕ) (m : ℤ) → p < length ms → ((k ≡ p) × (slot (set ms p m) k ≡ m)) ⊎ ((k ≢ p) × (slot (set ms p m) k ≡ slot ms k))
after_set ms p k m h =
    elim (cases_eq k p) [
      | inl same ↦ inl (same, ap (slot (set ms p m)) same ∙ get_or-set_same ms p m (pos 0) h)
      | inr apart ↦ inr (apart, get_or-set_other ms p k m (pos 0) apart)
    ]

put_below : (u : ℕ) (ms : List ℤ) (v : ℕ) (m : ℤ) → v < u → put u ms v m ≡ ms
put_below u ms v m h =
    let e : nat_lt v u ≡ true = grind (arith, nat_tests) in
    ap (λ (b : Bool). cond b ms (set ms (v - u) m)) e

put_above : (u : ℕ) (ms : List ℤ) (v : ℕ) (m : ℤ) → u ≤ v → put u ms v m ≡ set ms (v - u) m
put_above u ms v m h =
    let e : nat_lt v u ≡ false = grind (arith, nat_tests) in
    ap (λ (b : Bool). cond b ms (set ms (v - u) m)) e

-- after a number was put, a row whose slack is that variable has it, and every other has what it had
pub after_put : (u : ℕ) (ms : List ℤ) (v k : ℕ) (m : ℤ) → v < u + length ms → ((u + k ≡ v) × (slot (put u ms v m) k ≡ m))
    ⊎ ((u + k ≢ v) × (slot (put u ms v m) k ≡ slot ms k))
after_put u ms v k m h =
    elim (cases_lt v u) [
      | inl below ↦ inr (λ e. absurd (omega arith), ap (λ (xs : List ℤ). slot xs k) (put_below u ms v m below))
      | inr above ↦
          let is = put_above u ms v m above in
          elim (after_set ms (v - u) k m (omega arith)) [
            | inl here ↦ inl (let e = here.0 in omega arith, ap (λ (xs : List ℤ). slot xs k) is ∙ here.1)
            | inr there ↦ inr (λ e. there.0 (omega arith), ap (λ (xs : List ℤ). slot xs k) is ∙ there.1)
          ]
    ]

pub length-put : (u : ℕ) (ms : List ℤ) (v : ℕ) (m : ℤ) → length (put u ms v m) ≡ length ms
length-put u ms v m =
    elim (cases_lt v u) [
      | inl below ↦ ap length (put_below u ms v m below)
      | inr above ↦ ap length (put_above u ms v m above) ∙ length-set ms (v - u) m
    ]

-- the places filled by the row's own variable and by the columns before one
pub record Filled (unknowns count : ℕ) (t : Tableau) (row column : ℕ) (ms : List ℤ) : Type 0 where
  pub long : length ms ≡ count
  pub natural : AreNatural ms
  pub own : (k : ℕ) → k < count → basic_of t row ≡ unknowns + k → slot ms k ≡ (row_of t row).denominator
  pub cells : (j k : ℕ) → j < column → k < count → non_basic_of t j ≡ unknowns + k → slot ms k ≡ neg_ℤ (cell_of (row_of t row) j)
  pub others : (i k : ℕ) → i < length t.rows → i ≢ row → k < count → basic_of t i ≡ unknowns + k → slot ms k ≡ pos 0

put_natural : (u : ℕ) (ms : List ℤ) (v : ℕ) (m : ℤ) → v < u + length ms → AreNatural ms → pos 0 ≤ℤ m → InRange m → AreNatural (put u ms v m)
put_natural u ms v m h n low fits = record {
  natural = λ k. (elim (after_put u ms v k m h) [ inl here ↦ rw here.1 low | inr there ↦ rw there.1 (n.natural k) ]);
  fits = λ k. (elim (after_put u ms v k m h) [ inl here ↦ rw here.1 fits | inr there ↦ rw there.1 (n.fits k) ]);
}

pub fill-first : (n u count : ℕ) (t : Tableau) (row : ℕ) (ms : List ℤ) → IsBasis n t → n ≡ u + count → row < length t.rows → ms ≡ replicate count (pos 0)
    → pos 0 ≤ℤ (row_of t row).denominator → InRange (row_of t row).denominator →
    Filled u count t row 0 (put u ms (basic_of t row) (row_of t row).denominator)
fill-first n u count t row ms b room h e low fits =
    let long : length ms ≡ count = ap length e ∙ length-replicate count (pos 0) in
    let below = b.basic_below row h in
    let inside : basic_of t row < u + length ms = omega arith in
    let none = λ (k : ℕ). ap (λ (xs : List ℤ). slot xs k) e ∙ zeros_past [] count k (omega arith) in
    record {
      long = length-put u ms (basic_of t row) (row_of t row).denominator ∙ long;
      natural = put_natural u ms (basic_of t row) (row_of t row).denominator inside (record {
        natural = λ k. rw (none k) (omega (arith, ints));
        fits = λ k. rw (none k) (omega arith);
      }) low fits;
      own = λ k inside' same. (elim (after_put u ms (basic_of t row) k (row_of t row).denominator inside)
          [ inl here ↦ here.1 | inr there ↦ absurd (there.0 (sym same)) ]);
      cells = λ j k below' inside' same. absurd (omega arith);
      others = λ i k below' apart inside' same. (elim (after_put u ms (basic_of t row) k (row_of t row).denominator inside) [
        | inl here ↦ absurd (apart (b.basic_once i row below' h (same ∙ here.0)))
        | inr there ↦ there.1 ∙ none k
      ]);
    }

pub fill-next : (n u count : ℕ) (t : Tableau) (row column : ℕ) (ms : List ℤ) → IsBasis n t → n ≡ u + count → row < length t.rows → column < length t.non_basic
    → NoneEnters t row → InRange (cell_of (row_of t row) column) → Filled u count t row column ms →
    Filled u count t row (column + 1) (put u ms (non_basic_of t column) (neg_ℤ (cell_of (row_of t row) column)))
fill-next n u count t row column ms b room h inside none fits f =
    let v = non_basic_of t column in
    let m = neg_ℤ (cell_of (row_of t row) column) in
    let long = f.long in
    let below = b.non_basic_below column inside in
    let within : non_basic_of t column < u + length ms = omega arith in
    let low : pos 0 ≤ℤ neg_ℤ (cell_of (row_of t row) column) = omega (arith, ints, none column inside) in
    record {
      long = length-put u ms v m ∙ f.long;
      natural = put_natural u ms v m within f.natural low (rw (unsigned_abs-neg (cell_of (row_of t row) column)) fits);
      own = λ k inside' same. (elim (after_put u ms v k m within) [
        | inl here ↦ absurd (b.apart row column h inside (same ∙ here.0))
        | inr there ↦ there.1 ∙ f.own k inside' same
      ]);
      cells = λ j k below' inside' same. (elim (after_put u ms v k m within) [
        | inl here ↦
            let here_too : j ≡ column = b.non_basic_once j column (omega arith) inside (same ∙ here.0) in
            here.1 ∙ ap (λ (x : ℕ). neg_ℤ (cell_of (row_of t row) x)) (sym here_too)
        | inr there ↦ elim (cases_eq j column) [
          | inl here ↦ absurd (there.0 (sym same ∙ ap (non_basic_of t) here))
          | inr before ↦ there.1 ∙ f.cells j k (omega arith) inside' same
        ]
      ]);
      others = λ i k below' apart inside' same. (elim (after_put u ms v k m within) [
        | inl here ↦ absurd (b.apart i column below' inside (same ∙ here.0))
        | inr there ↦ there.1 ∙ f.others i k below' apart inside' same
      ]);
    }

pub fill-last : (u count : ℕ) (t : Tableau) (row column : ℕ) (ms : List ℤ) → length t.non_basic ≤ column → Filled u count t row column ms
    → FillSlots u count t row ms
fill-last u count t row column ms h f = record {
  long = f.long;
  natural = f.natural;
  gives = record {
    own = f.own;
    cells = λ j k below inside same. f.cells j k (omega arith) inside same;
    others = f.others;
  };
}

pub multipliers-wider : (low count wide : ℕ) (ts : List (ℕ × ℤ)) → count ≤ wide → AreMultipliers low count ts → AreMultipliers low wide ts
multipliers-wider low count wide [] h m = tt
multipliers-wider low count wide (t ∷ ts) h m = (m.0, (let b = m.1 in omega arith), m.2, multipliers-wider (t.0 + 1) count wide ts h m.3)

multipliers-push : (low at : ℕ) (ts : List (ℕ × ℤ)) (m : ℤ) → low ≤ at → AreMultipliers low at ts → pos 1 ≤ℤ m
    → AreMultipliers low (at + 1) (ts ++ (at, m) ∷ [])
multipliers-push low at [] m h all one = (h, omega arith, one, tt)
multipliers-push low at (t ∷ ts) m h all one =
    (all.0, (let b = all.1 in omega arith), all.2, multipliers-push (t.0 + 1) at ts m (let b = all.1 in omega arith) all.3 one)

pub list-first : (ms : List ℤ) → ListsSlots ms 0 []
list-first ms = record { normal = omega arith; multipliers = tt; coefficients = λ k h. absurd (omega arith) }

pub list-more : (ms : List ℤ) (at : ℕ) (ts : List (ℕ × ℤ)) → AreNatural ms → ListsSlots ms at ts → slot ms at ≢ pos 0
    → ListsSlots ms (at + 1) (ts ++ (at, slot ms at) ∷ [])
list-more ms at ts n l ne = record {
  normal = IsNormal-push 0 at ts (at, slot ms at) l.normal (omega arith) (record { not_zero = ne; in_range = n.fits at });
  multipliers = multipliers-push 0 at ts (slot ms at) (omega arith) l.multipliers (at_least_one (slot ms at) (n.natural at) ne);
  coefficients = λ k h. (
      let all = coefficient-append ts ((at, slot ms at) ∷ []) k in
      elim (eqb_tells at k) [
        | inl same ↦
            let none : coefficient ts k ≡ pos 0 = coefficient-above 0 at ts k l.normal (let e = same.1 in omega arith) in
            let last : coefficient ((at, slot ms at) ∷ []) k ≡ slot ms at = rw (same.0) (omega (arith, ints)) in
            let here = ap (slot ms) same.1 in
            omega (arith, ints, all, none, last, here)
        | inr other ↦
            let last : coefficient ((at, slot ms at) ∷ []) k ≡ pos 0 = rw (other.0) (omega (arith, ints)) in
            let before : k < at = omega arith in
            omega (arith, ints, all, last, l.coefficients k before)
      ]);
}

pub list-skip : (ms : List ℤ) (at : ℕ) (ts : List (ℕ × ℤ)) → ListsSlots ms at ts → slot ms at ≡ pos 0 → ListsSlots ms (at + 1) ts
list-skip ms at ts l e = record {
  normal = IsNormal-higher 0 at (at + 1) ts (omega arith) l.normal;
  multipliers = multipliers-wider 0 at (at + 1) ts (omega arith) l.multipliers;
  coefficients = λ k h. (elim (cases_eq k at) [
    | inl same ↦ coefficient-above 0 at ts k l.normal (omega arith) ∙ sym (ap (slot ms) same ∙ e)
    | inr before ↦ l.coefficients k (omega arith)
  ]);
}
