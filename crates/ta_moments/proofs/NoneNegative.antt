-- where no row subtracts a silent place, its coefficients of silent places are natural
use Rattle.ta_moments.proofs.Common.{◌≡◌, inl, inr, ℕ, zero, suc, ℤ, pos, negsuc, ◌+ℤ◌, ◌≤ℤ◌, ◌&&◌, ◌||◌, Bool, true, false, cond, List, [], ◌∷◌, Some, None}
use Rattle.ta_moments.proofs.Common.{slice_get, arith, refl, sym, subst, ints, eqb_tells, get_or, length, nat_lt, ◌≤◌, slice_get_within, list_any, position}
use Rattle.ta_moments.proofs.Common.{coefficient, Row, below_zero, subtracts}
use Rattle.std.proofs.lemmas.Bool.{ltb-false}
use Rattle.std.proofs.lemmas.List.Sums.{fails_before_first}
use Rattle.std.specs.List.{position_or_len}
use Rattle.std.specs.Prelude.{◌==◌, if◌then◌else◌}
use Rattle.ta_base.proofs.Booleans.{and_false}
use Rattle.ta_rest.specs.Quiet.{is_silent, NoneSubtracted}

item_at : {X : Type 0} (xs : List X) (i : ℕ) (x d : X) → slice_get xs i ≡ Some x → get_or xs i d ≡ x
item_at [] i x d at = absurd (cc)
item_at (y ∷ ys) zero x d at = cc
item_at (y ∷ ys) (suc i) x d at = item_at ys i x d at

not_within : (n m : ℕ) → cond (nat_lt n m) (Some n) None ≡ None → m ≤ n
not_within n m none = by_test (nat_lt n m) refl none
  where
    by_test : (b : Bool) → nat_lt n m ≡ b → cond b (Some n) None ≡ None → m ≤ n
    by_test true is none = absurd (cc)
    by_test false is none = ltb-false n m is

-- where no item passes a test, this one doesn't
none_passes : {X : Type 0} (test : X → Bool) (xs : List X) (i : ℕ) (x : X) → position test xs ≡ None → slice_get xs i ≡ Some x → test x ≡ false
none_passes test xs i x none at =
    let most = not_within (position_or_len test xs) (length xs) none in
    let within = slice_get_within xs i x at in
    subst (λ y. test y ≡ false) (item_at xs i x x at) (fails_before_first test xs i x (omega arith))

or_none : (b d : Bool) → (b || d) ≡ false → (b ≡ false) × (d ≡ false)
or_none true d e = absurd (cc)
or_none false d e = (refl, e)

not_below : (z : ℤ) → below_zero z ≡ false → pos 0 ≤ℤ z
not_below (pos n) e = omega (arith, ints)
not_below (negsuc n) e = absurd (cc)

sum_natural : (y z : ℤ) → pos 0 ≤ℤ y → pos 0 ≤ℤ z → pos 0 ≤ℤ (y +ℤ z)
sum_natural y z a b = omega (arith, ints)

-- a term's part of the coefficient of a silent place
part_natural : (silent : List ℕ) (place number : ℕ) (z : ℤ) → is_silent silent place ≡ true → (is_silent silent number && below_zero z) ≡ false
    → pos 0 ≤ℤ (if number == place then z else pos 0)
part_natural silent place number z quiet none = elim (eqb_tells number place) [
  | inl same ↦ rw same.0 (not_below z
      (and_false (is_silent silent number) (below_zero z) none (subst (λ (k : ℕ). is_silent silent k ≡ true) (sym same.1) quiet)))
  | inr apart ↦ rw apart.0 (omega (arith, ints))
]

coefficient_natural : (silent : List ℕ) (place : ℕ) (ts : List (ℕ × ℤ)) → is_silent silent place ≡ true
    → list_any (λ (t : ℕ × ℤ). is_silent silent t.0 && below_zero t.1) ts ≡ false → pos 0 ≤ℤ coefficient ts place
coefficient_natural silent place [] quiet none = omega (arith, ints)
coefficient_natural silent place (t ∷ ts) quiet none =
    let both = or_none (is_silent silent t.0 && below_zero t.1) (list_any (λ (t : ℕ × ℤ). is_silent silent t.0 && below_zero t.1) ts) none in
    sum_natural (if t.0 == place then t.1 else pos 0) (coefficient ts place) (part_natural silent place t.0 t.1 quiet both.0)
    (coefficient_natural silent place ts quiet both.1)

pub none_subtracted : (silent : List ℕ) (rows : List Row) → position (subtracts silent) rows ≡ None → NoneSubtracted silent rows
none_subtracted silent rows none = λ i row at place quiet. coefficient_natural silent place row.form.terms quiet
    (none_passes (subtracts silent) rows i row none at)
