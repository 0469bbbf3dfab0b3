-- what the leaf of a pair's system says of configurations
use Rattle.ta_implied.proofs.Common.{◌≡◌, inl, inr, ℕ, zero, suc, ◌<◌, ℤ, pos, ◌+ℤ◌, ◌≤ℤ◌, List, [], ◌∷◌, ◌++◌, length, Some, arith, sym, ap, ◌∙◌, subst}
use Rattle.ta_implied.proofs.Common.{length-append, All, flat_map, get_or_append_left, AllByRecursion, each_in, AllBelow, Row, Automaton, Comparison, FormOver}
use Rattle.ta_implied.proofs.Common.{resilience_rows, IsCopy, AreCopies, IsImplied, RiseHolds, LeavesImply, GuardsComeAfter}
use Rattle.ta_base.proofs.Integers.{natural_or_not}
use Rattle.ta_linear.specs.Values.{terms_value, value_of, RowHolds, Solves}
use Rattle.ta_linear.proofs.Farkas.{leaf_unsolved}
use Rattle.ta_linear.proofs.RangeSum.{RowHolds-negation}
use Rattle.ta_automaton.specs.Runs.{Admissible, Config, number_at, value_at}
use Rattle.ta_automaton.proofs.Thresholds.{form_at_parameters, terms_same}

-- rows that all hold, by recursion
abbrev AllHolds : (ℕ → ℤ) → List Row → Type 0
AllHolds f [] = Unit {0}
AllHolds f (r ∷ rs) = RowHolds f r × AllHolds f rs

-- a copy holds where its row does
copy_holds : (f : ℕ → ℤ) (r q : Row) → IsCopy r q → RowHolds f r → RowHolds f q
copy_holds f r q is h =
    let values : value_of f q.form ≡ value_of f r.form = ap (λ z. z +ℤ terms_value f q.form.terms) is.constant
    ∙ ap (λ (ts : List (ℕ × ℤ)). r.form.constant +ℤ terms_value f ts) is.terms in
    subst (λ z. pos 0 ≤ℤ z) (sym values) h

copies_hold : (f g : ℕ → ℤ) (n : ℕ) (rs qs : List Row) → AreCopies rs qs → AllBelow n qs → ((i : ℕ) → i < n → f i ≡ g i) → AllHolds f rs → AllHolds g qs
copies_hold f g n [] [] are below same h = tt
copies_hold f g n [] (q ∷ qs) are below same h = absurd are
copies_hold f g n (r ∷ rs) [] are below same h = absurd are
copies_hold f g n (r ∷ rs) (q ∷ qs) are below same h =
    let at_f = copy_holds f r q are.0 h.0 in
    let moved = ap (λ z. q.form.constant +ℤ z) (terms_same f g 0 n q.form.terms below.0 same) in
    (subst (λ z. pos 0 ≤ℤ z) moved at_f, copies_hold f g n rs qs are.1 below.1 same h.1)

all_of : (f : ℕ → ℤ) (rs : List Row) → AllHolds f rs → All (RowHolds f) rs
all_of f [] h k d c = absurd (omega arith)
all_of f (r ∷ rs) h zero d c = h.0
all_of f (r ∷ rs) h (suc k) d c = all_of f rs h.1 k d (omega arith)

holds_of : (f : ℕ → ℤ) (rs : List Row) → All (RowHolds f) rs → AllHolds f rs
holds_of f [] h = tt
holds_of f (r ∷ rs) h = (h 0 r (omega arith), holds_of f rs (λ k d c. h (suc k) d (omega arith)))

holds_append : (f : ℕ → ℤ) (rs qs : List Row) → AllHolds f rs → AllHolds f qs → AllHolds f (rs ++ qs)
holds_append f [] qs h g = g
holds_append f (r ∷ rs) qs h g = (h.0, holds_append f rs qs h.1 g)

-- rows over the parameters hold in a configuration where they hold at its parameters
rows_lifted : (a : Automaton) (c : Config) (rs : List Row) → length c.parameters ≡ length a.parameters
    → AllByRecursion (λ (r : Row). FormOver (length a.parameters) r.form) rs → AllHolds (number_at c.parameters) rs → AllHolds (value_at c) rs
rows_lifted a c [] count over h = tt
rows_lifted a c (r ∷ rs) count over h =
    (subst (λ z. pos 0 ≤ℤ z) (sym (form_at_parameters a c r.form count over.0)) h.0, rows_lifted a c rs count over.1 h.1)

conditions_lifted : (a : Automaton) (c : Config) (ks : List Comparison) → length c.parameters ≡ length a.parameters
    → AllByRecursion (λ (k : Comparison). AllByRecursion (λ (r : Row). FormOver (length a.parameters) r.form) k.rows) ks
    → All (λ (k : Comparison). All (RowHolds (number_at c.parameters)) k.rows) ks → AllHolds (value_at c) (flat_map (λ (k : Comparison). k.rows) ks)
conditions_lifted a c [] count over h = tt
conditions_lifted a c (k ∷ ks) count over h =
    holds_append (value_at c) k.rows (flat_map (λ (j : Comparison). j.rows) ks)
    (rows_lifted a c k.rows count over.0 (holds_of (number_at c.parameters) k.rows (h 0 k (omega arith))))
    (conditions_lifted a c ks count over.1 (λ i d e. h (suc i) d (omega arith)))

-- where the guard after holds and the one before doesn't, the system of the pair has a solution
pub leaves_imply : LeavesImply
leaves_imply a before after system ts is leaf c admissible shared holds row named =
    elim (natural_or_not (value_of (value_at c) row.form)) [
      | inl yea ↦ yea
      | inr nay ↦ absurd (leaf_unsolved system ts leaf (c.parameters ++ c.shared) (solved nay))
    ]
  where
    solved : (RowHolds (value_at c) row → ⊥) → Solves system (c.parameters ++ c.shared)
    solved nay =
        let count = admissible.count in
        let same : is.first ≡ row = (let e : Some is.first ≡ Some row = sym is.before_is ∙ named in cc) in
        let fails : RowHolds (value_at c) is.first → ⊥ = λ h. nay (subst (RowHolds (value_at c)) same h) in
        let second = holds is.second is.after_is in
        let negation = (RowHolds-negation (value_at c) is.negation is.first is.negated).1 fails in
        let resilience = conditions_lifted a c a.resilience.comparisons count a.shape.resilience_over admissible.resilience in
        let all = holds_append (value_at c) (resilience_rows a) (is.second ∷ is.negation ∷ []) resilience (second, (negation, tt)) in
        let many : length (c.parameters ++ c.shared) ≡ system.unknowns = (let u = is.unknowns in omega (arith, length-append c.parameters c.shared)) in
        record {
          count = many;
          rows_hold = all_of (number_at (c.parameters ++ c.shared)) system.rows
              (copies_hold (value_at c) (number_at (c.parameters ++ c.shared)) system.unknowns (resilience_rows a ++ is.second ∷ is.negation ∷ []) system.rows
              is.rows system.within
              (λ i below. ap pos (get_or_append_left (c.parameters ++ c.shared) c.counters 0 i (omega arith))) all);
        }

pair_implies : (a : Automaton) (pair : ℕ × ℕ) → IsImplied a pair → (c : Config) → Admissible a c.parameters → length c.shared ≡ length a.shared
    → RiseHolds a c pair.1 → RiseHolds a c pair.0
pair_implies a pair is c admissible shared holds = leaves_imply a pair.0 pair.1 is.system is.multipliers is.is is.leaf c admissible shared holds

pub guards_come_after : GuardsComeAfter
guards_come_after a pairs good c admissible shared zero first last leads holds =
    pair_implies a (first, last) (each_in (IsImplied a) pairs (first, last) good.implied leads) c admissible shared holds
guards_come_after a pairs good c admissible shared (suc more) first last leads holds =
    pair_implies a (first, leads.0) (each_in (IsImplied a) pairs (first, leads.0) good.implied leads.1) c admissible shared
    (guards_come_after a pairs good c admissible shared more leads.0 last leads.2 holds)
