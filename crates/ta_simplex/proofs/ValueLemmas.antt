-- the values of a vertex, row by row
use Rattle.ta_simplex.proofs.Common.{◌≡◌, ◌≢◌, inl, inr, ℕ, ◌+◌, ◌<◌, ◌≤◌, List, [], ◌∷◌, ◌++◌, length, set, arith, sym, ap, ◌∙◌, subst, ℤ, pos, Option}
use Rattle.ta_simplex.proofs.Common.{IsSomeAnd, cases_eq, cases_lt, length-set, length-append, get-set_other, get-set_same, Tableau, row_of, basic_of}
use Rattle.ta_simplex.proofs.Common.{non_basic_of, IsBasis, ValueIs, AreZeros, GivesValues, Fraction, get_end, slice_get_before}

-- the basic unknowns of the rows before one have their values, and every other unknown is 0
pub record ValuesSoFar (t : Tableau) (unknowns row : ℕ) (values : List Fraction) : Type 0 where
  pub count : length values ≡ unknowns
  pub basic : (i : ℕ) → i < row → basic_of t i < unknowns → ValueIs values (basic_of t i) (row_of t i).constant (row_of t i).denominator
  pub others : (x : ℕ) → x < unknowns → ((i : ℕ) → i < row → basic_of t i ≢ x) → ValueIs values x (pos 0) (pos 1)

value_set_same : (values : List Fraction) (x : ℕ) (f : Fraction) (a b : ℤ) → x < length values → f.top ≡ a → f.bottom ≡ b → ValueIs (set values x f) x a b
value_set_same values x f a b h e k = subst (λ (o : Option Fraction). IsSomeAnd o (λ g. (g.top ≡ a) × (g.bottom ≡ b))) (sym (get-set_same values x f h)) (e, k)

value_set_other : (values : List Fraction) (x y : ℕ) (f : Fraction) (a b : ℤ) → y ≢ x → ValueIs values y a b → ValueIs (set values x f) y a b
value_set_other values x y f a b ne v = subst (λ (o : Option Fraction). IsSomeAnd o (λ g. (g.top ≡ a) × (g.bottom ≡ b))) (sym (get-set_other values x y f ne)) v

pub values-first : (t : Tableau) (unknowns : ℕ) (values : List Fraction) → AreZeros unknowns values → ValuesSoFar t unknowns 0 values
values-first t unknowns values z = record { count = z.count; basic = λ i h below. absurd (omega arith); others = λ x h none. z.zero x h }

pub values-next : (n : ℕ) (t : Tableau) (unknowns row : ℕ) (values : List Fraction) (f : Fraction) → IsBasis n t → row < length t.rows
    → f.top ≡ (row_of t row).constant → f.bottom ≡ (row_of t row).denominator →
    ValuesSoFar t unknowns row values → ValuesSoFar t unknowns (row + 1) (set values (basic_of t row) f)
values-next n t unknowns row values f b h top bottom v =
    record {
      count = length-set values (basic_of t row) f ∙ v.count;
      basic = λ i below inside. (elim (cases_eq i row) [
        | inl same ↦
            let own : basic_of t row < length values = (let e = ap (basic_of t) same in omega arith) in
            subst (λ (k : ℕ). ValueIs (set values (basic_of t row) f) (basic_of t k) (row_of t k).constant (row_of t k).denominator) (sym same)
            (value_set_same values (basic_of t row) f (row_of t row).constant (row_of t row).denominator own top bottom)
        | inr before ↦
            value_set_other values (basic_of t row) (basic_of t i) f (row_of t i).constant (row_of t i).denominator
            (λ e. before (b.basic_once i row (omega arith) h e)) (v.basic i (omega arith) inside)
      ]);
      others = λ x inside none.
          value_set_other values (basic_of t row) x f (pos 0) (pos 1) (λ e. none row (omega arith) (sym e))
          (v.others x inside (λ i below. none i (omega arith)));
    }

pub values-last : (n : ℕ) (t : Tableau) (unknowns row : ℕ) (values : List Fraction) → IsBasis n t → length t.rows ≤ row → ValuesSoFar t unknowns row values
    → row ≤ length t.rows → GivesValues t unknowns values
values-last n t unknowns row values b h v top = record {
  count = v.count;
  basic = λ i below inside. v.basic i (omega arith) inside;
  non_basic = λ j below inside. v.others (non_basic_of t j) inside (λ i before. b.apart i j (omega arith) below);
}

pub zeros-next : (unknowns : ℕ) (values : List Fraction) (f : Fraction) → f.top ≡ pos 0 → f.bottom ≡ pos 1 → AreZeros unknowns values
    → AreZeros (unknowns + 1) (values ++ f ∷ [])
zeros-next unknowns values f top bottom z =
    record {
      count = length-append values (f ∷ []) ∙ (omega arith);
      zero = λ x h. (elim (cases_lt x unknowns) [
        | inl before ↦ subst (λ (o : Option Fraction). IsSomeAnd o (λ g. (g.top ≡ pos 0) × (g.bottom ≡ pos 1)))
            (sym (slice_get_before values (f ∷ []) x (omega arith))) (z.zero x before)
        | inr last ↦ subst (λ (o : Option Fraction). IsSomeAnd o (λ g. (g.top ≡ pos 0) × (g.bottom ≡ pos 1))) (sym (get_end values f x (omega arith)))
            (top, bottom)
      ]);
    }
