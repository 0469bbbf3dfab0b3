-- what is asked at the words of a claim, and how long they are
use Rattle.ta_walk.proofs.Common.{IsNarrow, ◌≡◌, ◌≤◌, ℕ, ℤ, List, [], ◌∷◌, length, arith, ap, refl, PatternOver, NodeOf, WholeNode, claim_legal, Automaton}
use Rattle.ta_walk.proofs.Common.{Pattern, Element, Node, search_for, Claim, is_complete, children, pattern_search, Extend, Safe, MayAsk, legal_length}
use Rattle.ta_rest.specs.declared.claim.Claim.TheVariants.{RestSafe}
use Rattle.ta_encode.proofs.Asking.{only_asks}
use Rattle.std.proofs.lemmas.List.{length-reverse}
use Rattle.ta_walk.proofs.WordsVisited.{starts_wait, left_wait}

-- only Extend asks
pub claim_asks : (claim : Claim) (a : Automaton) (p : Pattern) (pairs : List (ℕ × ℕ)) (start : ℕ) (past : List Element) (n : Node)
    → MayAsk (search_for claim a p pairs) start past n → n ≡ Extend
claim_asks Safe a p pairs start past n may = only_asks (pattern_search a p pairs) start past (is_complete p past) (children a p pairs start past) (λ m. refl) n
    may
claim_asks RestSafe a p pairs start past n may = only_asks (search_for RestSafe a p pairs) start past (is_complete p past) (children a p [] start past)
    (λ m. refl) n may

-- a node to which a claim's search comes has few facts
pub facts_few : (claim : Claim) (a : Automaton) (p : Pattern) (pairs : List (ℕ × ℕ)) (start : ℕ) (facts : List Element) (values : List ℤ) (budget number : ℕ)
    → PatternOver a p → IsNarrow a → NodeOf (search_for claim a p pairs) budget number (WholeNode (search_for claim a p pairs) start facts values)
    → length facts ≤ 30
facts_few claim a p pairs start facts values budget number over narrow found =
    let s = search_for claim a p pairs in
    let w = found.word in
    let waits = (left_wait s 0 s.roots found.visited.nodes (w ∷ found.visited.words) (starts_wait claim a p pairs) found.visited.visits).0 in
    let few = legal_length a p w.start w.past narrow over.events_limit (claim_legal claim a p pairs w.start w.past waits.comes) in
    let same = ap (λ (es : List Element). length es) found.holds.facts_are in
    omega (arith, length-reverse facts)
