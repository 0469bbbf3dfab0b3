-- Why a walk that ends without a solution is a proof: its nodes, in the order of visiting, refute the pattern.
--
-- A search is a list of words, each with bounds on its unknowns. At each node the walk takes the first of them and solves
-- its system over the fractions. Where that has no solution, the solver's multipliers make a leaf, and the word is done.
-- Where it has one and the word isn't complete, the words that are longer by one element take its place. Where the word is
-- complete and an unknown of the solution isn't whole, the word stands twice from there on, once with that unknown at most
-- the whole number below and once above it. Where all are whole the walk ends: the solution becomes a run (ta_witness).
-- What is kept along the walk (`WordSoFar`) is that the nodes behind it and the words before it make up the search: nodes
-- visited refute what has been left out. When no word is left, they refute all, in the order in which the judge reads.
-- Words have at most as many bounds as nodes have been visited, so a budget below 2 ^ 32 keeps each number of a node in
-- its range and each line short; and the walk ends, since each node takes one from the budget.
use Rattle.ta_walk.proofs.Common.{IsNarrow, ℕ, ◌+◌, ◌≤◌, List, [], ◌∷◌, ◌++◌, length, arith, sym, AllByRecursion, Node, IsNode, leaf_of, NodeAt, Visits}
use Rattle.ta_walk.proofs.Common.{IsProof, RefutedClaimsHold, Automaton, TreeIs, Pattern, Pending, Search, parts, IsJudged, claim_legal, claim_small}
use Rattle.ta_walk.proofs.Common.{search_for, Claim, pattern_within, PatternOver, subst, Element, in_order, weaker_proof, IsLeaf, RefutedInOrder}
use Rattle.ta_rest.proofs.ClaimsShown.{proofs_show}
use Rattle.ta_walk.proofs.ClaimsMade.{claim_asks}
use Rattle.ta_walk.proofs.WordsVisited.{Waits, starts_wait, next_wait}
use Rattle.ta_walk.proofs.NodesWritten.{node_written}
use Rattle.ta_walk.proofs.SplitsFit.{split_within}
use Rattle.ta_walk.proofs.NodesShort.{nodes_few, nodes_short}
use Rattle.ta_encode.specs.InPreorder.{MayStand}
use Rattle.ta_walk.proofs.Nodes.{few_variables}
use Rattle.ta_cert.specs.declared.line.Node.TheVariants as node

may_stand : {E : Type 0} (s : Search E) (w : Pending E) (n : Node) → NodeAt s w n → MayStand s (IsJudged s) w n
may_stand s w (node.Leaf ts) h = record { leaf = leaf_of s w h.refuted.system ts h.refuted.is h.refuted.holds.multipliers.leaf; in_range = h.in_range }
may_stand s w (node.Split unknown floor) h = split_within s w unknown floor h
may_stand s w n h = h.may

-- the nodes of a whole tree refute the words with which it begins, and no leaf check leaves the range
pub refuted_in_order : {E : Type 0} (s : Search E) (ws : List (Pending E)) (ns : List Node) → Visits s ws ns [] → RefutedInOrder s (IsJudged s) ws ns
refuted_in_order s ws [] v = sym v
refuted_in_order s [] (n ∷ ns) v = absurd v
refuted_in_order s (w ∷ ws) (n ∷ ns) v = (may_stand s w n v.0, refuted_in_order s (parts s w n ++ ws) ns v.1)

-- each node that is visited within the budget can be written
nodes_written : (claim : Claim) (a : Automaton) (p : Pattern) (pairs : List (ℕ × ℕ)) → PatternOver a p → IsNarrow a
    → (most : ℕ) (ws : List (Pending Element)) (ns : List Node) (rest : List (Pending Element)) → most + length ns ≤ 1000000000
    → AllByRecursion (Waits (search_for claim a p pairs) most) ws → Visits (search_for claim a p pairs) ws ns rest → AllByRecursion IsNode ns
nodes_written claim a p pairs over narrow most ws [] rest budget all v = tt
nodes_written claim a p pairs over narrow most [] (n ∷ ns) rest budget all v = absurd v
nodes_written claim a p pairs over narrow most (w ∷ ws) (n ∷ ns) rest budget all v =
    let s = search_for claim a p pairs in
    let waits = all.0 in
    let few : length w.bounds ≤ 1000000000 = (let k = waits.few in omega arith) in
    let legal = claim_legal claim a p pairs w.start w.past waits.comes in (
      node_written s w n (λ z is. few_variables w z few (claim_small claim a narrow p pairs w z over legal is))
          (λ m may. subst IsNode (sym (claim_asks claim a p pairs w.start w.past m may)) tt) v.0,
      nodes_written claim a p pairs over narrow (most + 1) (parts s w n ++ ws) ns rest (omega arith) (next_wait s most w ws n all) v.1,
    )

-- the nodes of a whole tree are a proof that a judge accepts
pub proof_made : (claim : Claim) (a : Automaton) (p : Pattern) (pairs : List (ℕ × ℕ)) → PatternOver a p → IsNarrow a → (budget : ℕ) → budget ≤ 1000000000
    → (nodes : List Node) (count : ℕ) → TreeIs (search_for claim a p pairs) budget nodes count → IsProof 4656 (search_for claim a p pairs) nodes
proof_made claim a p pairs over narrow budget within nodes count tree =
    let s = search_for claim a p pairs in
    let starts = starts_wait claim a p pairs in
    let writable = nodes_written claim a p pairs over narrow 0 s.roots nodes [] (omega arith) starts tree.visits in
    let few = nodes_few claim a p pairs over narrow 0 s.roots nodes [] starts tree.visits in
    record { refutes = refuted_in_order s s.roots nodes tree.visits; writable = writable; few = few; short = nodes_short 4656 nodes writable few }

pub refuted_hold : RefutedClaimsHold
refuted_hold claim file number p at narrow may loops pairs good budget within nodes count tree =
    let s = search_for claim file.automaton p pairs in
    let proof = proof_made claim file.automaton p pairs (pattern_within file number p at) narrow budget within nodes count tree in
    let trees = (in_order IsJudged s nodes).0 proof.refutes in (
      proof,
      proofs_show claim file number p at may loops pairs good trees.0
          (weaker_proof (IsJudged s) (IsLeaf s) (λ w ts judged. judged.leaf) s trees.0 trees.1),
    )
