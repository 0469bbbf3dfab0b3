-- what facts add
use Rattle.ta_moment_tree.proofs.Common.{◌≡◌, ◌≢◌, ◌∙◌, ℕ, zero, suc, ◌+◌, ◌<◌, ◌≤◌, Bool, true, false, ◌&&◌, List, [], ◌∷◌, ◌++◌, drop, get_or, length, map}
use Rattle.ta_moment_tree.proofs.Common.{reverse, slice_get, take, Option, Some, None, refl, sym, ap, subst, arith, length-append, range_with_len, false≢true}
use Rattle.ta_moment_tree.proofs.Common.{append-nil, length-map, length-range_with_len, reverse_more, slice_get_before, slice_get_right, Automaton, Pattern}
use Rattle.ta_moment_tree.proofs.Common.{Fact, Never, First, Stands, Last, Before, After, Same, Vacant, Fails, needing, sparing, Known, Moment, Point, Vector}
use Rattle.ta_moment_tree.proofs.Common.{at_first, end_vector, event_vector, with_fact, are_pairs, nodes_begin, is_plain, is_pair_in}
use Rattle.ta_moments.specs.Moments.{is_pair}
unfoldable use Rattle.ta_moments.specs.Moments.{known}
use Rattle.ta_moment_tree.proofs.Cutting.{moments_front}
use Rattle.ta_moment_tree.specs.Counts.{is_last}
use Rattle.ta_moment_tree.proofs.Reversed.{reverse_parts}

-- ---- unknowns
fewer_above : (a : Automaton) (p : Pattern) (silent : List ℕ) (c : Option ℕ) (newer past : List Fact)
    → (known a p silent c past).unknowns ≤ (known a p silent c (newer ++ past)).unknowns
fewer_above a p silent c [] past = omega arith
fewer_above a p silent c (fact ∷ newer) past =
    let next = nodes_begin a p silent c (newer ++ past) fact in
    let more = next.unknowns in
    omega (arith, fewer_above a p silent c newer past, more)

-- one fact more has no fewer
pub fewer_next : (a : Automaton) (p : Pattern) (silent : List ℕ) (c : Option ℕ) (past : List Fact) (fact : Fact)
    → (known a p silent c past).unknowns ≤ (known a p silent c (fact ∷ past)).unknowns
fewer_next a p silent c past fact = fewer_above a p silent c (fact ∷ []) past

-- the first facts have no more
pub fewer_first : (a : Automaton) (p : Pattern) (silent : List ℕ) (c : Option ℕ) (facts : List Fact) (i : ℕ)
    → (known a p silent c (reverse (take i facts))).unknowns ≤ (known a p silent c (reverse facts)).unknowns
fewer_first a p silent c facts i =
    subst (λ (past : List Fact). (known a p silent c (reverse (take i facts))).unknowns ≤ (known a p silent c past).unknowns) (sym (reverse_parts facts i))
    (fewer_above a p silent c (reverse (drop i facts)) (reverse (take i facts)))

-- ---- moments
-- a fact adds none
pub adds_none : (a : Automaton) (p : Pattern) (silent : List ℕ) (end : Vector) (k : Known) (fact : Fact) → is_plain fact ≡ true
    → (with_fact a p silent end k fact).moments ≡ k.moments
adds_none a p silent end k (Never g) h = append-nil k.moments
adds_none a p silent end k (First g) h = absurd (false≢true h)
adds_none a p silent end k (Stands g) h = append-nil k.moments
adds_none a p silent end k (Last g) h = absurd (false≢true h)
adds_none a p silent end k (Before x y) h = append-nil k.moments
adds_none a p silent end k (After x y) h = append-nil k.moments
adds_none a p silent end k (Same x y) h = append-nil k.moments
adds_none a p silent end k (Vacant r) h = append-nil k.moments
adds_none a p silent end k (Fails r g) h = append-nil k.moments

-- or one, which is a pair if it is a last use
pub record AddsOne (k more : Known) (fact : Fact) : Type 0 where
  pub moment : Moment
  pub is : more.moments ≡ k.moments ++ moment ∷ []
  pub pair : is_pair moment ≡ is_last fact

pub adds_one : (a : Automaton) (p : Pattern) (silent : List ℕ) (end : Vector) (k : Known) (fact : Fact) → is_plain fact ≡ false
    → AddsOne k (with_fact a p silent end k fact) fact
adds_one a p silent end k (Never g) h = absurd (false≢true (sym h))
adds_one a p silent end k (First g) h = record { moment = _; is = refl; pair = refl }
adds_one a p silent end k (Stands g) h = absurd (false≢true (sym h))
adds_one a p silent end k (Last g) h = record { moment = _; is = refl; pair = refl }
adds_one a p silent end k (Before x y) h = absurd (false≢true (sym h))
adds_one a p silent end k (After x y) h = absurd (false≢true (sym h))
adds_one a p silent end k (Same x y) h = absurd (false≢true (sym h))
adds_one a p silent end k (Vacant r) h = absurd (false≢true (sym h))
adds_one a p silent end k (Fails r g) h = absurd (false≢true (sym h))

pub counts_one : (k more : Known) (fact : Fact) → AddsOne k more fact → length more.moments ≡ length k.moments + 1
counts_one k more fact adds = ap (λ (ms : List Moment). length ms) adds.is ∙ length-append k.moments (adds.moment ∷ [])

-- one more fact
pub known_more : (a : Automaton) (p : Pattern) (silent : List ℕ) (c : Option ℕ) (past : List Fact) (fact : Fact)
    → known a p silent c (fact ∷ past) ≡ with_fact a p silent (end_vector a p c) (known a p silent c past) fact
unfolding known
known_more a p silent c past fact = refl

pub known_first : (a : Automaton) (p : Pattern) (silent : List ℕ) (c : Option ℕ) → known a p silent c [] ≡ at_first a p c
unfolding known
known_first a p silent c = refl

pub moments_at_first : (a : Automaton) (p : Pattern) (silent : List ℕ) (c : Option ℕ) → length (known a p silent c []).moments ≡ length p.events
moments_at_first a p silent c =
    ap (λ (k : Known). length k.moments) (known_first a p silent c) ∙ length-map (range_with_len 0 (length p.events)) (λ e. Point (event_vector a p e))
    ∙ length-range_with_len 0 (length p.events)

-- with the next of some facts
next_known : (a : Automaton) (p : Pattern) (silent : List ℕ) (c : Option ℕ) (facts : List Fact) (i : ℕ) (d : Fact) → i < length facts
    → known a p silent c (reverse (take (i + 1) facts)) ≡ with_fact a p silent (end_vector a p c) (known a p silent c (reverse (take i facts)))
    (get_or facts i d)
next_known a p silent c facts i d below = ap (known a p silent c) (reverse_more facts i d below)
    ∙ known_more a p silent c (reverse (take i facts)) (get_or facts i d)

pub moments_kept : (a : Automaton) (p : Pattern) (silent : List ℕ) (c : Option ℕ) (facts : List Fact) (i : ℕ) (d : Fact) → i < length facts
    → is_plain (get_or facts i d) ≡ true
    → (known a p silent c (reverse (take (i + 1) facts))).moments ≡ (known a p silent c (reverse (take i facts))).moments
moments_kept a p silent c facts i d below plain = ap (λ (k : Known). k.moments) (next_known a p silent c facts i d below)
    ∙ adds_none a p silent (end_vector a p c) (known a p silent c (reverse (take i facts))) (get_or facts i d) plain

pub moment_pushed : (a : Automaton) (p : Pattern) (silent : List ℕ) (c : Option ℕ) (facts : List Fact) (i : ℕ) (d : Fact) → i < length facts
    → is_plain (get_or facts i d) ≡ false
    → AddsOne (known a p silent c (reverse (take i facts))) (known a p silent c (reverse (take (i + 1) facts))) (get_or facts i d)
moment_pushed a p silent c facts i d below new =
    subst (λ (k : Known). AddsOne (known a p silent c (reverse (take i facts))) k (get_or facts i d)) (sym (next_known a p silent c facts i d below))
    (adds_one a p silent (end_vector a p c) (known a p silent c (reverse (take i facts))) (get_or facts i d) new)

-- ---- pairs
never_both : (x : Bool) → false ≡ (x && false)
never_both true = refl
never_both false = refl

-- the events' moments aren't
no_pair : {X : Type 0} (v : X → Vector) (xs : List X) (m : ℕ) → is_pair_in (slice_get (map (λ x. Point (v x)) xs) m) ≡ false
no_pair v [] m = refl
no_pair v (x ∷ xs) zero = refl
no_pair v (x ∷ xs) (suc m) = no_pair v xs m

pub no_pair_first : (a : Automaton) (p : Pattern) (silent : List ℕ) (c : Option ℕ) (m : ℕ) → is_pair_in (slice_get (known a p silent c []).moments m) ≡ false
unfolding known
no_pair_first a p silent c m = no_pair (event_vector a p) (range_with_len 0 (length p.events)) m

-- the one that is added has the next number
pub pair_added : (k more : Known) (fact : Fact) (m : ℕ) → AddsOne k more fact → m ≡ length k.moments → is_pair_in (slice_get more.moments m) ≡ is_last fact
pair_added k more fact m adds here =
    ap is_pair_in (ap (λ (ms : List Moment). slice_get ms m) adds.is ∙ slice_get_right k.moments (adds.moment ∷ []) m 0 (omega (arith, here))) ∙ adds.pair

-- at the other numbers nothing changes
other_same : (ms : List Moment) (new : Moment) (m : ℕ) → m ≢ length ms → slice_get (ms ++ new ∷ []) m ≡ slice_get ms m
other_same [] new zero other = absurd (other refl)
other_same [] new (suc m) other = refl
other_same (x ∷ ms) new zero other = refl
other_same (x ∷ ms) new (suc m) other = other_same ms new m (λ same. other (ap suc same))

pub pair_other : (k more : Known) (fact : Fact) (m : ℕ) → AddsOne k more fact → m ≢ length k.moments
    → is_pair_in (slice_get more.moments m) ≡ is_pair_in (slice_get k.moments m)
pair_other k more fact m adds other = ap is_pair_in (ap (λ (ms : List Moment). slice_get ms m) adds.is ∙ other_same k.moments adds.moment m other)

-- those of the first facts are the first ones
pub pair_later : (a : Automaton) (p : Pattern) (silent : List ℕ) (c : Option ℕ) (facts : List Fact) (i m : ℕ)
    → m < length (known a p silent c (reverse (take i facts))).moments
    → is_pair_in (slice_get (known a p silent c (reverse facts)).moments m) ≡ is_pair_in (slice_get (known a p silent c (reverse (take i facts))).moments m)
pair_later a p silent c facts i m below =
    let front = moments_front a p silent c (reverse (drop i facts)) (reverse (take i facts)) in
    ap (λ (past : List Fact). is_pair_in (slice_get (known a p silent c past).moments m)) (reverse_parts facts i)
    ∙ ap (λ (ms : List Moment). is_pair_in (slice_get ms m)) front.is
    ∙ ap is_pair_in (slice_get_before (known a p silent c (reverse (take i facts))).moments front.more m below)

-- neither the silent places nor the candidate count for the number of unknowns
abbrev added : Automaton → Pattern → Fact → ℕ
added a p (Never g) = 0
added a p (First g) = length (sparing a p g)
added a p (Stands g) = 0
added a p (Last g) = length (sparing a p g) + length (needing a p g)
added a p (Before x y) = 0
added a p (After x y) = 0
added a p (Same x y) = 0
added a p (Vacant r) = 0
added a p (Fails r g) = 0

adds_unknowns : (a : Automaton) (p : Pattern) (silent : List ℕ) (end : Vector) (k : Known) (fact : Fact)
    → (with_fact a p silent end k fact).unknowns ≡ k.unknowns + added a p fact
adds_unknowns a p silent end k (Never g) = refl
adds_unknowns a p silent end k (First g) = refl
adds_unknowns a p silent end k (Stands g) = refl
adds_unknowns a p silent end k (Last g) = refl
adds_unknowns a p silent end k (Before x y) = refl
adds_unknowns a p silent end k (After x y) = refl
adds_unknowns a p silent end k (Same x y) = refl
adds_unknowns a p silent end k (Vacant r) = refl
adds_unknowns a p silent end k (Fails r g) = refl

pub unknowns_same : (a : Automaton) (p : Pattern) (silent others : List ℕ) (c d : Option ℕ) (past : List Fact)
    → (known a p silent c past).unknowns ≡ (known a p others d past).unknowns
unknowns_same a p silent others c d [] = ap (λ (k : Known). k.unknowns) (known_first a p silent c)
    ∙ sym (ap (λ (k : Known). k.unknowns) (known_first a p others d))
unknowns_same a p silent others c d (fact ∷ past) =
    ap (λ (k : Known). k.unknowns) (known_more a p silent c past fact)
    ∙ adds_unknowns a p silent (end_vector a p c) (known a p silent c past) fact
    ∙ ap (λ n. n + added a p fact) (unknowns_same a p silent others c d past)
    ∙ sym (ap (λ (k : Known). k.unknowns) (known_more a p others d past fact) ∙ adds_unknowns a p others (end_vector a p d) (known a p others d past) fact)
