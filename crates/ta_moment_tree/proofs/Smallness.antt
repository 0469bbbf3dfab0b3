-- what is written of a guard has few terms and small numbers
use Rattle.ta_moment_tree.proofs.Common.{ℕ, ℤ, ◌≤◌, List, [], ◌∷◌, length, arith, AllByRecursion, Row, Automaton, SmallForm, ◌≡◌, ◌++◌, slice_get, Some}
use Rattle.ta_moment_tree.proofs.Common.{each_at, each_append, Bool, not, filter, cond_both, SmallTerms, guards, is_silent, loud_terms}
use Rattle.ta_encode.proofs.Smallness.{rise_rows_small, fall_rows_small}

-- the row of a guard
pub guard_small : (a : Automaton) (g : ℕ) (row : Row) → slice_get (guards a) g ≡ Some row → SmallForm row.form
guard_small a g row at = each_at (λ (r : Row). SmallForm r.form) (a.rise ++ a.fall) g row
    (each_append (λ (r : Row). SmallForm r.form) a.rise a.fall (rise_rows_small a) (fall_rows_small a)) at

kept_small : (test : (ℕ × ℤ) → Bool) (P : (ℕ × ℤ) → Type 0) (ts : List (ℕ × ℤ)) → AllByRecursion P ts → AllByRecursion P (filter test ts)
kept_small test P [] h = tt
kept_small test P (t ∷ ts) h = cond_both (test t) (t ∷ filter test ts) (filter test ts) (AllByRecursion P) (λ _. (h.0, kept_small test P ts h.1))
    (λ _. kept_small test P ts h.1)

kept_few : (test : (ℕ × ℤ) → Bool) (ts : List (ℕ × ℤ)) → length (filter test ts) ≤ length ts
kept_few test [] = omega arith
kept_few test (t ∷ ts) = cond_both (test t) (t ∷ filter test ts) (filter test ts) (λ (us : List (ℕ × ℤ)). length us ≤ length (t ∷ ts))
    (λ _. omega (arith, kept_few test ts)) (λ _. omega (arith, kept_few test ts))

-- the terms that aren't of silent places
pub loud_small : (silent : List ℕ) (ts : List (ℕ × ℤ)) → SmallTerms ts → SmallTerms (loud_terms silent ts)
loud_small silent ts h =
    let test : (ℕ × ℤ) → Bool = λ t. not (is_silent silent t.0) in
    record { few = (let few = h.few in omega (arith, kept_few test ts)); small = kept_small test _ ts h.small }
