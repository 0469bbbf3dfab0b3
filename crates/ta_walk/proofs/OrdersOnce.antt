-- the orders that are found are one list
use Rattle.ta_walk.proofs.Common.{◌≡◌, inl, inr, ℕ, zero, suc, ℤ, List, [], ◌∷◌, ◌++◌, length, sym, ap, ◌∙◌, subst, System, Automaton, Order, slack_tableau}
use Rattle.ta_walk.proofs.Common.{CheckStays, ImplySystem, LeafOf, OverflowsAt, IsRefuted, IsVertex, Fraction, end_once, none_beside, FoundAfter, FoundBefore}
use Rattle.ta_walk.proofs.Common.{FoundOrdersAreDetermined, RefutedPair, TryAnswers}
use Rattle.ta_walk.proofs.DeterminedOutcomes.{multipliers_of}
use Rattle.ta_implied.proofs.PairNumbers.{pair_numbers}
use Rattle.ta_walk.proofs.PairSystems.{check_alike}
use Rattle.ta_simplex.specs.declared.End.TheVariants as end

-- a pair is refuted with one list of multipliers
pub refuted_once : (a : Automaton) (before after : ℕ) (ts us : List (ℕ × ℤ)) → RefutedPair a before after ts → RefutedPair a before after us → ts ≡ us
refuted_once a before after ts us r q =
    multipliers_of ts us (end_once r.system q.system (pair_numbers a before after r.system q.system r.is q.is) (end.Refuted ts) (end.Refuted us) r.refuted
    q.refuted)

-- not where a pivot leaves the range
pub none_overflows : (a : Automaton) (before after : ℕ) (s : System) (count : ℕ) → ImplySystem a before after s → OverflowsAt (slack_tableau s) count
    → (ts : List (ℕ × ℤ)) → RefutedPair a before after ts → ⊥
none_overflows a before after s count is overflows ts r = none_beside r.system s (pair_numbers a before after r.system s r.is is) (end.Refuted ts) count
    r.refuted overflows

-- nor at a vertex
pub none_at_vertex : (a : Automaton) (before after : ℕ) (s : System) (values : List Fraction) → ImplySystem a before after s → IsVertex s values
    → (ts : List (ℕ × ℤ)) → RefutedPair a before after ts → ⊥
none_at_vertex a before after s values is vertex ts r =
    let e = end_once r.system s (pair_numbers a before after r.system s r.is is) (end.Refuted ts) (end.Vertex values) r.refuted vertex in
    absurd (cc)

-- nor where the check of the multipliers is refused
pub none_leaves : (a : Automaton) (before after : ℕ) (s : System) (us : List (ℕ × ℤ)) → ImplySystem a before after s → IsRefuted s us
    → (LeafOf s us → CheckStays s us → ⊥) → (ts : List (ℕ × ℤ)) → RefutedPair a before after ts → ⊥
none_leaves a before after s us is refuted refused ts r =
    let numbers = pair_numbers a before after r.system s r.is is in
    let same = multipliers_of ts us (end_once r.system s numbers (end.Refuted ts) (end.Refuted us) r.refuted refuted) in
    refused refuted.multipliers.leaf (subst (CheckStays s) same (check_alike r.system s ts numbers r.stays))

pair_once : (a : Automaton) (orders : List Order) (before after : ℕ) (x y : List Order) → TryAnswers a orders before after x
    → TryAnswers a orders before after y → x ≡ y
pair_once a orders before after x y (inl t) (inl u) =
    let same = refuted_once a before after t.multipliers u.multipliers t.taken.refuted u.taken.refuted in
    t.whole ∙ ap (λ (ts : List (ℕ × ℤ)). orders ++ record { before = before; after = after; multipliers = ts } ∷ []) same ∙ sym u.whole
pair_once a orders before after x y (inl t) (inr u) = absurd (u.none t.multipliers t.taken)
pair_once a orders before after x y (inr t) (inl u) = absurd (t.none u.multipliers u.taken)
pair_once a orders before after x y (inr t) (inr u) = t.same ∙ sym u.same

before_once : (a : Automaton) (orders : List Order) (after count : ℕ) (x y : List Order) → FoundBefore a orders after count x
    → FoundBefore a orders after count y → x ≡ y
before_once a orders after zero x y f g = f ∙ sym g
before_once a orders after (suc before) x y (next, f, t) (other, g, u) =
    let same = before_once a orders after before next other f g in
    pair_once a next before after x y t (subst (λ (os : List Order). TryAnswers a os before after y) (sym same) u)

after_once : (a : Automaton) (count : ℕ) (x y : List Order) → FoundAfter a count x → FoundAfter a count y → x ≡ y
after_once a zero x y f g = f ∙ sym g
after_once a (suc after) x y (next, f, t) (other, g, u) =
    let same = after_once a after next other f g in
    before_once a next after (length a.rise) x y t (subst (λ (os : List Order). FoundBefore a os after (length a.rise) y) (sym same) u)

pub orders_once : FoundOrdersAreDetermined
orders_once a os rs f g = after_once a (length a.rise) os rs f g
