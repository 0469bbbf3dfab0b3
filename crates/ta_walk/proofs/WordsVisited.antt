-- what is known of each word that a visit leaves
use Rattle.ta_walk.proofs.Common.{◌≡◌, inl, inr, ℕ, zero, suc, ◌+◌, ◌≤◌, ◌^◌, List, [], ◌∷◌, ◌++◌, map, length, length-append, arith, refl, sym, ap, subst}
use Rattle.ta_walk.proofs.Common.{AllByRecursion, each_append, Automaton, Pattern, In, range_with_len, Node, Bound, Low, High, Visits, Pending, Search, Comes}
use Rattle.ta_walk.proofs.Common.{bound_at, bounded, longer, parts, all_starts, empty_word, comes_first, IsUnbounded, claim_roots, search_for, Claim, Answers}
use Rattle.ta_walk.proofs.Common.{answered}
use Rattle.ta_cert.specs.declared.line.Node.TheVariants as node

-- a word to which the search comes, with so many bounds at most
pub record Waits {E : Type 0} (s : Search E) (most : ℕ) (w : Pending E) : Type 0 where
  pub comes : Comes s w.start w.past
  pub few : length w.bounds ≤ most

waits_more : {E : Type 0} (s : Search E) (few more : ℕ) (ws : List (Pending E)) → few ≤ more → AllByRecursion (Waits s few) ws
    → AllByRecursion (Waits s more) ws
waits_more s few more [] h all = tt
waits_more s few more (w ∷ ws) h all =
    let first = all.0 in
    (record { comes = first.comes; few = (let k = first.few in omega arith) }, waits_more s few more ws h all.1)

longer_wait : {E : Type 0} (s : Search E) (most : ℕ) (w : Pending E) → Waits s most w → (es : List E) → ((e : E) → In e es → Answers s w.start w.past e)
    → AllByRecursion (Waits s most) (map (longer w) es)
longer_wait s most w waits [] inside = tt
longer_wait s most w waits (e ∷ es) inside = (
  record { comes = inr (inside e (inl (let same : e ≡ e = cc in same)), waits.comes); few = waits.few },
  longer_wait s most w waits es
      (λ f is. inside f (inr is)),
)

bounded_waits : {E : Type 0} (s : Search E) (most : ℕ) (w : Pending E) (b : Bound) → Waits s most w → Waits s (most + 1) (bounded w b)
bounded_waits s most w b waits = record { comes = waits.comes; few = (let k = waits.few in omega (arith, length-append w.bounds (b ∷ []))) }

parts_wait : {E : Type 0} (s : Search E) (most : ℕ) (w : Pending E) (n : Node) → Waits s most w → AllByRecursion (Waits s (most + 1)) (parts s w n)
parts_wait s most w (node.Leaf ts) waits = tt
parts_wait s most w (node.Split unknown floor) waits =
    (bounded_waits s most w (bound_at unknown floor Low) waits, (bounded_waits s most w (bound_at unknown floor High) waits, tt))
parts_wait s most w n waits = waits_more s most (most + 1) (map (longer w) (answered s w.start w.past n)) (omega arith)
    (longer_wait s most w waits (answered s w.start w.past n) (λ e is. (n, is)))

-- what is left after a node
pub next_wait : {E : Type 0} (s : Search E) (most : ℕ) (w : Pending E) (ws : List (Pending E)) (n : Node) → AllByRecursion (Waits s most) (w ∷ ws)
    → AllByRecursion (Waits s (most + 1)) (parts s w n ++ ws)
next_wait s most w ws n all = each_append (Waits s (most + 1)) (parts s w n) ws (parts_wait s most w n all.0)
    (waits_more s most (most + 1) ws (omega arith) all.1)

roots_from : {E : Type 0} (s : Search E) (ws : List (Pending E)) → ((w : Pending E) → In w ws → In w s.roots) → AllByRecursion IsUnbounded ws
    → AllByRecursion (Waits s 0) ws
roots_from s [] inside all = tt
roots_from s (w ∷ ws) inside all =
    let none = all.0 in (
      record { comes = comes_first s w.start w.past (w, inside w (inl (let same : w ≡ w = refl in same)), refl, refl); few = omega (arith, ap length none) },
      roots_from s ws (λ v is. inside v (inr is)) all.1,
    )

-- the words with which a search begins
pub roots_wait : {E : Type 0} (s : Search E) → AllByRecursion IsUnbounded s.roots → AllByRecursion (Waits s 0) s.roots
roots_wait s all = roots_from s s.roots (λ w is. is) all

numbers_unbounded : (k n : ℕ) → AllByRecursion IsUnbounded (map empty_word (range_with_len k n))
numbers_unbounded k zero = tt
numbers_unbounded k (suc n) = (refl, numbers_unbounded (k + 1) n)

-- those of a pattern have no bounds
pub starts_unbounded : (a : Automaton) → AllByRecursion IsUnbounded (all_starts a)
starts_unbounded a = numbers_unbounded 0 (2 ^ length a.fall)

-- nor have those of a claim's search
pub claim_unbounded : (claim : Claim) (a : Automaton) (p : Pattern) (pairs : List (ℕ × ℕ)) → AllByRecursion IsUnbounded (search_for claim a p pairs).roots
claim_unbounded claim a p pairs = subst (AllByRecursion IsUnbounded) (sym (claim_roots claim a p pairs)) (starts_unbounded a)

pub starts_wait : (claim : Claim) (a : Automaton) (p : Pattern) (pairs : List (ℕ × ℕ))
    → AllByRecursion (Waits (search_for claim a p pairs) 0) (search_for claim a p pairs).roots
starts_wait claim a p pairs = roots_wait (search_for claim a p pairs) (claim_unbounded claim a p pairs)

-- the words that are left after nodes
pub left_wait : {E : Type 0} (s : Search E) (most : ℕ) (ws : List (Pending E)) (ns : List Node) (rest : List (Pending E)) → AllByRecursion (Waits s most) ws
    → Visits s ws ns rest → AllByRecursion (Waits s (most + length ns)) rest
left_wait s most ws [] rest all v = waits_more s most (most + 0) rest (omega arith) (subst (AllByRecursion (Waits s most)) (sym v) all)
left_wait s most [] (n ∷ ns) rest all v = absurd v
left_wait s most (w ∷ ws) (n ∷ ns) rest all v =
    waits_more s ((most + 1) + length ns) (most + suc (length ns)) rest (omega arith)
    (left_wait s (most + 1) (parts s w n ++ ws) ns rest (next_wait s most w ws n all) v.1)
