-- Why the least-index rule returns: no basis comes back.
--
-- Two facts are set against each other. At each moment there are values that solve all rows and are 0 outside the basis;
-- a basic variable has the sign of its constant there. And a step leaves the solutions as they are, so the values of one
-- moment solve the rows of every other.
-- Were a basis to come back, some variables would leave and enter in between. Let x be the greatest of them, k a moment
-- where it leaves and j one where it enters, and take the values of moment k. In them x is negative, since its row was
-- chosen for a negative constant; every smaller variable is natural, since its row was chosen as that of the least; and
-- what is outside the basis is 0.
-- Put them into the row that is chosen at moment j. Its basic variable is smaller than x, so the left side is natural. On
-- the right stand a negative constant; x, which is negative, times its cell, which is positive, for x enters; smaller
-- variables, which are natural, times cells that are at most 0, or the least of them had entered; and greater ones, which
-- don't change, so that they are outside the basis at k too, and are 0. So it is negative, and the two sides differ.
-- There are at most 2 ^ n bases, so the rule ends before as many steps (`Ends`).
use Rattle.ta_simplex.proofs.Common.{◌≡◌, ◌≢◌, inl, inr, ℕ, suc, ◌+◌, ◌*◌, ◌<◌, ◌≤◌, List, [], ◌∷◌, length, get_or, Bool, true, false, arith, refl, sym, ap}
use Rattle.ta_simplex.proofs.Common.{◌∙◌, subst, ℤ, pos, ◌*ℤ◌, ◌<ℤ◌, ◌≤ℤ◌, cases_eq, cases_order, cases_Bool, ints, ge-zero_of_mul, lt-zero_of_mul, mul-ge-zero}
use Rattle.ta_simplex.proofs.Common.{mul-le-zero, mul-le-zero_turned, mul-lt-zero, switches, Tableau, row_of, basic_of, non_basic_of, dot, IsDictionary, Leaves}
use Rattle.ta_simplex.proofs.Common.{Enters, *ℤ-zero}
use Rattle.std.proofs.Common.{true≢false}
use Rattle.std.proofs.lemmas.Bool.{false≢true}
use Rattle.ta_simplex.proofs.Basic.{is_basic}
use Rattle.ta_base.proofs.Searches.{Moves, Stays, moves_or_stays, greatest_or_none}
use Rattle.ta_base.proofs.Booleans.{other_of}
use Rattle.std.proofs.Math.Logic.{⊎_swap}

-- a sum of numbers that are at most 0
dot-le-zero : (cs : List ℤ) (us : List ℕ) (value : ℕ → ℤ) → ((j : ℕ) → j < length cs → (get_or cs j (pos 0) *ℤ value (get_or us j 0)) ≤ℤ pos 0)
    → dot cs us value ≤ℤ pos 0
dot-le-zero [] us value h = omega (arith, ints)
dot-le-zero (c ∷ cs) [] value h = omega (arith, ints)
dot-le-zero (c ∷ cs) (u ∷ us) value h =
    omega (arith, ints, h 0 (omega arith), dot-le-zero cs us value (λ j below. h (suc j) (omega arith)))

dot-zero : (cs : List ℤ) (us : List ℕ) (value : ℕ → ℤ) → length cs ≡ length us → ((j : ℕ) → j < length us → value (get_or us j 0) ≡ pos 0)
    → dot cs us value ≡ pos 0
dot-zero [] us value e h = refl
dot-zero (c ∷ cs) [] value e h = refl
dot-zero (c ∷ cs) (u ∷ us) value e h =
    let z = h 0 (omega arith) in
    rw (z, dot-zero cs us value (omega arith) (λ j below. h (suc j) (omega arith))) (omega (arith, ints))

-- how a step changes the basis
pub record ChangesBasis (f g : ℕ → Bool) (leaving entering : ℕ) : Type 0 where
  pub left_before : f leaving ≡ true
  pub left_after : g leaving ≡ false
  pub entered_before : f entering ≡ false
  pub entered_after : g entering ≡ true
  pub others : (v : ℕ) → v ≢ leaving → v ≢ entering → g v ≡ f v

-- what is known of each moment of a run of the least-index rule
pub record Moment (A : ℤ → (ℕ → ℤ) → Type 0) (n : ℕ) (t t' : Tableau) : Type 0 where
  pub dictionary : IsDictionary A n t
  pub tests : (i : ℕ) → i < length t.rows → is_basic t (basic_of t i) ≡ true
  pub tests_not : (j : ℕ) → j < length t.non_basic → is_basic t (non_basic_of t j) ≡ false
  pub row : ℕ
  pub column : ℕ
  pub leaves : Leaves t row
  pub enters : Enters t row column
  pub changes : ChangesBasis (is_basic t) (is_basic t') (basic_of t row) (non_basic_of t column)

only_leaving : (f g : ℕ → Bool) (l e x : ℕ) → ChangesBasis f g l e → f x ≡ true → g x ≡ false → x ≡ l
only_leaving f g l e x c p q =
    elim (cases_eq x l) [
      | inl same ↦ same
      | inr other ↦ elim (cases_eq x e) [
        | inl entering ↦ absurd (let k = sym c.entered_after ∙ ap g (sym entering) ∙ q in cc)
        | inr neither ↦ absurd (let k = sym p ∙ sym (c.others x other neither) ∙ q in cc)
      ]
    ]

only_entering : (f g : ℕ → Bool) (l e x : ℕ) → ChangesBasis f g l e → f x ≡ false → g x ≡ true → x ≡ e
only_entering f g l e x c p q =
    elim (cases_eq x e) [
      | inl same ↦ same
      | inr other ↦ elim (cases_eq x l) [
        | inl leaving ↦ absurd (let k = sym c.left_after ∙ ap g (sym leaving) ∙ q in cc)
        | inr neither ↦ absurd (let k = sym p ∙ sym (c.others x neither other) ∙ q in cc)
      ]
    ]

-- what the values at the moment where x leaves keep: x is negative, every smaller variable is natural, every non-basic one is 0
pub record Witness (n x : ℕ) (f : ℕ → Bool) (scale : ℕ) (value : ℕ → ℤ) : Type 0 where
  pub some : 0 < scale
  pub negative : value x <ℤ pos 0
  pub natural : (v : ℕ) → v < n → v < x → pos 0 ≤ℤ value v
  pub outside : (v : ℕ) → v < n → f v ≡ false → value v ≡ pos 0

-- a row where each non-basic variable is 0
pub row_alone : (A : ℤ → (ℕ → ℤ) → Type 0) (n : ℕ) (t : Tableau) → IsDictionary A n t → (s : ℕ) (value : ℕ → ℤ) → A (pos s) value →
    ((j : ℕ) → j < length t.non_basic → value (non_basic_of t j) ≡ pos 0) → (i : ℕ) → i < length t.rows →
    (row_of t i).denominator *ℤ value (basic_of t i) ≡ pos s *ℤ (row_of t i).constant
row_alone A n t d s value a zeros i h =
    (d.rows i h).holds (pos s) value a ∙ (rw (dot-zero (row_of t i).cells t.non_basic value ((d.rows i h).long) zeros) (omega (arith, ints)))

-- values where every non-basic variable is 0 and the scale is positive
witness : (A : ℤ → (ℕ → ℤ) → Type 0) (n : ℕ) (t t' : Tableau) (m : Moment A n t t') →
    (scale : ℕ) × (value : (ℕ → ℤ)) × A (pos scale) value × Witness n (basic_of t m.row) (is_basic t) scale value
witness A n t t' m =
    let f = m.dictionary.free (pos 1) (λ _. pos 0) in
    let zeros = λ (j : ℕ) (h : j < length t.non_basic). f.4 j h ∙ *ℤ-zero (pos f.0) in
    let alone = row_alone A n t m.dictionary (f.0 * 1) f.1 f.3 zeros in (
      f.0 * 1,
      f.1,
      f.3,
      record {
        some = let some = f.2 in omega arith;
        negative =
            lt-zero_of_mul (row_of t m.row).denominator (f.1 (basic_of t m.row)) ((m.dictionary.rows m.row m.leaves.below).positive)
            (rw (alone m.row m.leaves.below) (mul-lt-zero (f.0 * 1) (row_of t m.row).constant (let some = f.2 in omega arith) m.leaves.negative));
        natural = λ v below smaller.
            elim (m.dictionary.basis.cover v below) [
              | inl b ↦ subst (λ (u : ℕ). pos 0 ≤ℤ f.1 u) b.2
                  (ge-zero_of_mul (row_of t b.0).denominator (f.1 (basic_of t b.0)) (m.dictionary.rows b.0 b.1).positive
                  (rw (alone b.0 b.1) (mul-ge-zero (pos (f.0 * 1)) (row_of t b.0).constant (omega (arith, ints))
                  (m.leaves.least b.0 b.1 (let e = b.2 in omega arith)))))
              | inr c ↦ subst (λ (u : ℕ). pos 0 ≤ℤ f.1 u) c.2 (rw (zeros c.0 c.1) (omega (arith, ints)))
            ];
        outside = λ v below out.
            elim (m.dictionary.basis.cover v below) [
              | inl b ↦ absurd (let k = sym (m.tests b.0 b.1) ∙ ap (is_basic t) b.2 ∙ out in cc)
              | inr c ↦ subst (λ (u : ℕ). f.1 u ≡ pos 0) c.2 (zeros c.0 c.1)
            ];
      },
    )

-- x leaves at the moment k and enters at the moment j, and no greater variable changes between s and t
core : (A : ℤ → (ℕ → ℤ) → Type 0) (n : ℕ) (at : ℕ → Tableau) (s t x k j : ℕ) → x < n →
    ((y : ℕ) → x < y → y < n → Stays (λ i. is_basic (at i) y) s t) →
    s ≤ k → k < t → Moment A n (at k) (at (k + 1)) → is_basic (at k) x ≡ true → is_basic (at (k + 1)) x ≡ false →
    s ≤ j → j < t → Moment A n (at j) (at (j + 1)) → is_basic (at j) x ≡ false → is_basic (at (j + 1)) x ≡ true → ⊥
core A n at s t x k j below above sk kt mk k_before k_after sj jt mj j_before j_after =
    let xk : x ≡ basic_of (at k) mk.row = only_leaving (is_basic (at k)) (is_basic (at (k + 1))) (basic_of (at k) mk.row) (non_basic_of (at k) mk.column) x
    mk.changes k_before k_after in
    let xj : x ≡ non_basic_of (at j) mj.column = only_entering (is_basic (at j)) (is_basic (at (j + 1))) (basic_of (at j) mj.row)
    (non_basic_of (at j) mj.column) x mj.changes j_before j_after in
    let found = witness A n (at k) (at (k + 1)) mk in
    let scale = found.0 in
    let value = found.1 in
    let w = found.3 in
    let y = basic_of (at j) mj.row in
    let y_below : y < n = mj.dictionary.basis.basic_below mj.row mj.leaves.below in
    let smaller : y < x = elim (cases_order y x) [
      | inl same ↦ absurd (let e = sym mj.changes.left_before ∙ ap (is_basic (at j)) same ∙ j_before in cc)
      | inr other ↦ elim other [
        | inl less ↦ less
        | inr greater ↦ absurd (
            let still = above y greater y_below in
            let e = sym mj.changes.left_before ∙ still j sj (omega arith) ∙ sym (still (j + 1) (omega arith) (omega arith)) ∙ mj.changes.left_after in
            cc)
      ]
    ] in
    let natural : pos 0 ≤ℤ value y = w.natural y y_below (let e = xk in omega arith) in
    let terms : (i : ℕ) → i < length (row_of (at j) mj.row).cells
    → (get_or (row_of (at j) mj.row).cells i (pos 0) *ℤ value (get_or (at j).non_basic i 0)) ≤ℤ pos 0 = λ i h.
    (let long = (mj.dictionary.rows mj.row mj.leaves.below).long in
    let inside : i < length (at j).non_basic = omega arith in
    let u_below = mj.dictionary.basis.non_basic_below i inside in
    elim (cases_order (non_basic_of (at j) i) x) [
      | inl same ↦
          let here : i ≡ mj.column = mj.dictionary.basis.non_basic_once i mj.column inside mj.enters.below (same ∙ xj) in
          mul-le-zero_turned (get_or (row_of (at j) mj.row).cells i (pos 0)) (value (get_or (at j).non_basic i 0))
          (rw here (omega (arith, ints, mj.enters.positive)))
          (rw (same, xk) (omega (arith, ints, w.negative)))
      | inr other ↦ elim other [
        | inl less ↦
            mul-le-zero (get_or (row_of (at j) mj.row).cells i (pos 0)) (value (get_or (at j).non_basic i 0))
            (mj.enters.least i inside (let e = xj in omega arith))
            (w.natural (non_basic_of (at j) i) u_below (let e = xk in omega arith))
        | inr greater ↦
            let still = above (non_basic_of (at j) i) greater u_below in
            let out = still k sk (omega arith) ∙ sym (still j sj (omega arith)) ∙ mj.tests_not i inside in
            rw (w.outside (non_basic_of (at j) i) u_below out) (omega (arith, ints))
      ]
    ]) in
    let equation = (mj.dictionary.rows mj.row mj.leaves.below).holds (pos scale) value found.2 in
    let sum = dot-le-zero (row_of (at j) mj.row).cells (at j).non_basic value terms in
    let constant = mul-lt-zero scale (row_of (at j) mj.row).constant w.some mj.leaves.negative in
    let negative = lt-zero_of_mul (row_of (at j) mj.row).denominator (value y) ((mj.dictionary.rows mj.row mj.leaves.below).positive)
    (rw equation (omega (arith, ints, constant, sum))) in
    absurd (omega (arith, ints, negative, natural))

-- the least-index rule repeats no basis
pub no_basis_repeats : (A : ℤ → (ℕ → ℤ) → Type 0) (n : ℕ) (at : ℕ → Tableau) (s t : ℕ) → s < t →
    ((k : ℕ) → s ≤ k → k < t → Moment A n (at k) (at (k + 1))) → ((v : ℕ) → v < n → is_basic (at s) v ≡ is_basic (at t) v) → ⊥
no_basis_repeats A n at s t h moments same =
    elim (greatest_or_none (λ v. Moves (λ i. is_basic (at i) v) s t) (λ v. Stays (λ i. is_basic (at i) v) s t) n
    (λ v. moves_or_stays (λ i. is_basic (at i) v) s t)) [
      | inr none ↦
          let m = moments s (omega arith) h in
          let l = basic_of (at s) m.row in
          let e = none l (m.dictionary.basis.basic_below m.row m.leaves.below) (s + 1) (omega arith) (omega arith) in
          absurd (let k = sym m.changes.left_after ∙ e ∙ m.changes.left_before in cc)
      | inl g ↦
          let f = λ (i : ℕ). is_basic (at i) g.0 in
          let either = λ (i : ℕ). cases_Bool (f i) in
          let ends = same g.0 g.1 in
          let i = g.2.0 in
          elim (cases_Bool (f s)) [
            | inl yes_s ↦
                let no_i = other_of (f i) (f s) true false g.2.3 yes_s (either i) in
                let fall = switches f true false s i true≢false either g.2.1 yes_s no_i in
                let rise = switches f false true i t false≢true (λ k. ⊎_swap (either k)) g.2.2 no_i (sym ends ∙ yes_s) in
                core A n at s t g.0 fall.0 rise.0 g.1 g.3 fall.1 (let e = fall.2 in let e' = g.2.2 in omega arith)
                (moments fall.0 fall.1 (let e = fall.2 in let e' = g.2.2 in omega arith)) fall.3 fall.4
                (let e = rise.1 in let e' = g.2.1 in omega arith) rise.2 (moments rise.0 (let e = rise.1 in let e' = g.2.1 in omega arith) rise.2) rise.3 rise.4
            | inr no_s ↦
                let yes_i = other_of (f i) (f s) false true g.2.3 no_s (⊎_swap (either i)) in
                let rise = switches f false true s i false≢true (λ k. ⊎_swap (either k)) g.2.1 no_s yes_i in
                let fall = switches f true false i t true≢false either g.2.2 yes_i (sym ends ∙ no_s) in
                core A n at s t g.0 fall.0 rise.0 g.1 g.3 (let e = fall.1 in let e' = g.2.1 in omega arith) fall.2
                (moments fall.0 (let e = fall.1 in let e' = g.2.1 in omega arith) fall.2) fall.3 fall.4
                rise.1 (let e = rise.2 in let e' = g.2.2 in omega arith) (moments rise.0 rise.1 (let e = rise.2 in let e' = g.2.2 in omega arith)) rise.3 rise.4
          ]
    ]
