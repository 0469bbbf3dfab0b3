-- the values of a vertex meet every row
use Rattle.ta_simplex.proofs.Common.{◌≡◌, inl, inr, ℕ, zero, suc, ◌+◌, ◌*◌, ◌<◌, ◌≤◌, List, [], ◌∷◌, length, arith, sym, ap, ◌∙◌, subst, ℤ, pos, ◌*ℤ◌, ◌≤ℤ◌}
use Rattle.ta_simplex.proofs.Common.{slice_get, All, IsSomeAnd, ints, *ℤ_comm, ge-zero_of_mul, mul-ge-zero, Row, System, Tableau, row_of, basic_of}
use Rattle.ta_simplex.proofs.Common.{non_basic_of, IsAssignment, SlacksFollow, slack_at, variables, DictionaryOf, NoneLeaves, GivesValues, MeetRows, Fraction}
use Rattle.ta_simplex.proofs.Common.{*ℤ-zero}
use Rattle.ta_base.proofs.Options.{is_some-map}
use Rattle.ta_simplex.proofs.Bland.{row_alone}

-- numbers at which every non-basic variable is 0
record Corner (s : System) (t : Tableau) : Type 0 where
  pub scale : ℕ
  pub value : ℕ → ℤ
  pub some : 0 < scale
  pub assigned : IsAssignment s (pos scale) value
  pub zeros : (j : ℕ) → j < length t.non_basic → value (non_basic_of t j) ≡ pos 0

corner : (s : System) (t : Tableau) → DictionaryOf s t → Corner s t
corner s t d =
    let f = d.free (pos 1) (λ _. pos 0) in
    record {
      scale = f.0 * 1;
      value = f.1;
      some = (let some = f.2 in omega arith);
      assigned = f.3;
      zeros = λ j h. (f.4 j h ∙ *ℤ-zero (pos f.0));
    }

alone : (s : System) (t : Tableau) → DictionaryOf s t → (c : Corner s t) → (i : ℕ) → i < length t.rows
    → (row_of t i).denominator *ℤ c.value (basic_of t i) ≡ pos c.scale *ℤ (row_of t i).constant
alone s t d c = row_alone (IsAssignment s) (variables s) t d c.scale c.value c.assigned c.zeros

-- where no constant is negative, no variable is
natural_at : (s : System) (t : Tableau) → DictionaryOf s t → NoneLeaves t → (c : Corner s t) → (v : ℕ) → v < variables s → pos 0 ≤ℤ c.value v
natural_at s t d ended c v below =
    elim (d.basis.cover v below) [
      | inl b ↦ subst (λ (u : ℕ). pos 0 ≤ℤ c.value u) b.2
          (ge-zero_of_mul (row_of t b.0).denominator (c.value (basic_of t b.0)) (d.rows b.0 b.1).positive
          (rw (alone s t d c b.0 b.1) (mul-ge-zero (pos c.scale) (row_of t b.0).constant (omega (arith, ints)) (ended b.0 b.1))))
      | inr j ↦ subst (λ (u : ℕ). pos 0 ≤ℤ c.value u) j.2 (rw (c.zeros j.0 j.1) (omega (arith, ints)))
    ]

slacks_hold : (rs : List Row) (v n : ℕ) (scale : ℤ) (value : ℕ → ℤ) → SlacksFollow rs v scale value → v + length rs ≤ n → ((u : ℕ) → u < n → pos 0 ≤ℤ value u)
    → All (λ r. pos 0 ≤ℤ slack_at r scale value) rs
slacks_hold [] v n scale value follow room natural k d h = absurd (omega arith)
slacks_hold (r ∷ rs) v n scale value follow room natural zero d h = rw (← follow.0) (natural v (omega arith))
slacks_hold (r ∷ rs) v n scale value follow room natural (suc k) d h = slacks_hold rs (suc v) n scale value follow.1 (omega arith) natural k d (omega arith)

pub values_meet_rows : (s : System) (t : Tableau) (values : List Fraction) → DictionaryOf s t → NoneLeaves t → GivesValues t s.unknowns values
    → MeetRows s values
values_meet_rows s t values d ended gives =
    let c = corner s t d in
    let natural = natural_at s t d ended c in
    record {
      scale = c.scale;
      numbers = c.value;
      some = c.some;
      over_scale = λ x below. (elim (d.basis.cover x (omega arith)) [
        | inl b ↦
            let h = gives.basic b.0 b.1 (omega arith) in
            subst (λ (u : ℕ). IsSomeAnd (slice_get values u) (λ f. c.value u *ℤ f.bottom ≡ pos c.scale *ℤ f.top)) b.2
            (is_some-map (slice_get values (basic_of t b.0)) (λ f. (f.top ≡ (row_of t b.0).constant) × (f.bottom ≡ (row_of t b.0).denominator))
            (λ f. c.value (basic_of t b.0) *ℤ f.bottom ≡ pos c.scale *ℤ f.top)
            (λ f is. ap (λ (z : ℤ). c.value (basic_of t b.0) *ℤ z) is.1 ∙ *ℤ_comm (c.value (basic_of t b.0)) (row_of t b.0).denominator ∙ alone s t d c b.0 b.1
            ∙ ap (λ (z : ℤ). pos c.scale *ℤ z) (sym is.0)) h)
        | inr j ↦
            let h = gives.non_basic j.0 j.1 (omega arith) in
            let zero_value = c.zeros j.0 j.1 in
            subst (λ (u : ℕ). IsSomeAnd (slice_get values u) (λ f. c.value u *ℤ f.bottom ≡ pos c.scale *ℤ f.top)) j.2
            (is_some-map (slice_get values (non_basic_of t j.0)) (λ f. (f.top ≡ pos 0) × (f.bottom ≡ pos 1))
            (λ f. c.value (non_basic_of t j.0) *ℤ f.bottom ≡ pos c.scale *ℤ f.top)
            (λ f is. rw (is.0, is.1, c.zeros j.0 j.1) (omega (arith, ints))) h)
      ]);
      natural = λ x below. natural x (omega arith);
      not_negative = λ x below. (elim (d.basis.cover x (omega arith)) [
        | inl b ↦
            subst (λ (u : ℕ). IsSomeAnd (slice_get values u) (λ f. pos 0 ≤ℤ f.top)) b.2
            (is_some-map (slice_get values (basic_of t b.0)) (λ f. (f.top ≡ (row_of t b.0).constant) × (f.bottom ≡ (row_of t b.0).denominator))
            (λ f. pos 0 ≤ℤ f.top) (λ f is. rw (is.0) (ended b.0 b.1)) (gives.basic b.0 b.1 (omega arith)))
        | inr j ↦
            subst (λ (u : ℕ). IsSomeAnd (slice_get values u) (λ f. pos 0 ≤ℤ f.top)) j.2
            (is_some-map (slice_get values (non_basic_of t j.0)) (λ f. (f.top ≡ pos 0) × (f.bottom ≡ pos 1)) (λ f. pos 0 ≤ℤ f.top)
            (λ f is. rw (is.0) (omega (arith, ints))) (gives.non_basic j.0 j.1 (omega arith)))
      ]);
      rows_hold = slacks_hold s.rows s.unknowns (variables s) (pos c.scale) c.value c.assigned (omega arith) natural;
    }
