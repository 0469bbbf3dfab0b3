-- values and multipliers from the rows of the unknowns, place by place
use Rattle.ta_simplex.proofs.Common.{◌≡◌, inl, inr, ℕ, ◌+◌, ◌^◌, ◌<◌, ◌≤◌, List, [], ◌∷◌, ◌++◌, length, get_or, arith, refl, sym, ◌∙◌, subst, ℤ, pos, neg_ℤ}
use Rattle.ta_simplex.proofs.Common.{ints, replicate, cases_lt, length-append, Option, IsSomeAnd, get_end, slice_get_before, System, Tableau, TableauRow}
use Rattle.ta_simplex.proofs.Common.{row_of, non_basic_of, variables, InRange, Fraction, ValueIs, put, FillSlots, IsBound, AreRevisedValues, IsStuckAt}
use Rattle.ta_revised.proofs.Bounded.{cell_le}
use Rattle.ta_simplex.proofs.SlotLemmas.{Filled, fill-first, fill-next, fill-last}

-- one value more
pub values-push : (d : Tableau) (unknown : ℕ) (values : List Fraction) (f : Fraction) → f.top ≡ (row_of d unknown).constant
    → f.bottom ≡ (row_of d unknown).denominator → AreRevisedValues d unknown values → AreRevisedValues d (unknown + 1) (values ++ f ∷ [])
values-push d unknown values f top bottom are =
    let long = are.long in
    record {
      long = length-append values (f ∷ []) ∙ (omega arith);
      each = λ x h. (elim (cases_lt x unknown) [
        | inl before ↦ subst (λ (o : Option Fraction). IsSomeAnd o (λ g. (g.top ≡ (row_of d x).constant) × (g.bottom ≡ (row_of d x).denominator)))
            (sym (slice_get_before values (f ∷ []) x (omega arith))) (are.each x before)
        | inr last ↦
            let at : x ≡ unknown = omega arith in
            subst (λ (y : ℕ). ValueIs (values ++ f ∷ []) y (row_of d y).constant (row_of d y).denominator) (sym at)
            (subst (λ (o : Option Fraction). IsSomeAnd o (λ g. (g.top ≡ (row_of d unknown).constant) × (g.bottom ≡ (row_of d unknown).denominator)))
            (sym (get_end values f unknown long)) (top, bottom))
      ]);
    }

-- the row's own multiplier
pub slots_first : (s : System) (d t : Tableau) (r : TableauRow) (row bound : ℕ) (ms : List ℤ) → IsStuckAt s d r t row → IsBound bound r → bound < 2 ^ 15
    → ms ≡ replicate (length s.rows) (pos 0) → Filled s.unknowns (length s.rows) t row 0 (put s.unknowns ms r.basic r.denominator)
slots_first s d t r row bound ms stuck bounded small none =
    let h = stuck.stuck.leaves.below in
    let positive = (stuck.revised.dictionary.rows row h).positive in
    let b = bounded.denominator in
    let in_range : InRange r.denominator = omega arith in
    let fits = subst (λ (x : TableauRow). InRange x.denominator) stuck.chosen in_range in
    subst (λ (x : TableauRow). Filled s.unknowns (length s.rows) t row 0 (put s.unknowns ms x.basic x.denominator)) (sym stuck.chosen)
    (fill-first (variables s) s.unknowns (length s.rows) t row ms stuck.revised.dictionary.basis refl h none (omega (arith, ints, positive)) fits)

-- the multiplier of a column
pub slots_next : (s : System) (d t : Tableau) (r : TableauRow) (row bound column : ℕ) (ms : List ℤ) → IsStuckAt s d r t row → IsBound bound r
    → bound < 2 ^ 15 → length r.cells ≡ length d.non_basic → column < length d.non_basic → Filled s.unknowns (length s.rows) t row column ms →
    Filled s.unknowns (length s.rows) t row (column + 1) (put s.unknowns ms (get_or d.non_basic column 0) (neg_ℤ (get_or r.cells column (pos 0))))
slots_next s d t r row bound column ms stuck bounded small long inside f =
    let h = stuck.stuck.leaves.below in
    let same = stuck.revised.non_basic in
    let columns : column < length t.non_basic = subst (λ (us : List ℕ). column < length us) same inside in
    let b = cell_le r.cells bound column bounded.cells (omega arith) in
    let in_range : InRange (get_or r.cells column (pos 0)) = omega arith in
    let fits = subst (λ (x : TableauRow). InRange (get_or x.cells column (pos 0))) stuck.chosen in_range in
    let next = fill-next (variables s) s.unknowns (length s.rows) t row column ms stuck.revised.dictionary.basis refl h columns stuck.stuck.none_enters fits f
    in
    subst (λ (us : List ℕ). Filled s.unknowns (length s.rows) t row (column + 1)
    (put s.unknowns ms (get_or us column 0) (neg_ℤ (get_or r.cells column (pos 0)))))
    (sym same)
    (subst (λ (x : TableauRow). Filled s.unknowns (length s.rows) t row (column + 1)
    (put s.unknowns ms (non_basic_of t column) (neg_ℤ (get_or x.cells column (pos 0)))))
    (sym stuck.chosen) next)

-- all of them
pub slots_last : (s : System) (d t : Tableau) (r : TableauRow) (row column : ℕ) (ms : List ℤ) → IsStuckAt s d r t row → length d.non_basic ≤ column
    → Filled s.unknowns (length s.rows) t row column ms → FillSlots s.unknowns (length s.rows) t row ms
slots_last s d t r row column ms stuck all f =
    fill-last s.unknowns (length s.rows) t row column ms (subst (λ (us : List ℕ). length us ≤ column) stuck.revised.non_basic all) f
