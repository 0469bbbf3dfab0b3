-- the nodes of a walk are short
use Rattle.ta_walk.proofs.Common.{IsNarrow, ℕ, ◌+◌, ◌*◌, ◌<◌, ◌≤◌, ◌^◌, ℤ, List, [], ◌∷◌, ◌++◌, length, arith, length-append, codes, decimal, lit<, ints}
use Rattle.ta_walk.proofs.Common.{AllByRecursion, row_short, number_short, Automaton, Pattern, LegalWord, Node, pair_text, pairs_text, split_text}
use Rattle.ta_walk.proofs.Common.{IsMultiplierPair, ArePairs, IsSplit, IsNode, few_multipliers, NodeAt, Visits, HasFewPairs, IsShort, Pending, parts}
use Rattle.ta_walk.proofs.Common.{few_unknowns, PatternOver, claim_legal, claim_unknowns, search_for, Claim, Element}
use Rattle.std.specs.Fmt.{signed_decimal}
use Rattle.ta_walk.proofs.WordsVisited.{Waits, next_wait}
use Rattle.ta_cert.specs.declared.line.Node.TheVariants as node

-- a pair has at most 51 bytes
pair_short : (t : ℕ × ℤ) → IsMultiplierPair t → length (pair_text t) ≤ 51
pair_short t is =
    let low = is.low in
    let number = number_short t.1 (omega (arith, ints)) is.high in
    omega (arith, length-append (decimal t.0) (codes ":" ++ signed_decimal t.1), row_short t.0 is.row, number)

pub pairs_short : (low : ℕ) (ts : List (ℕ × ℤ)) → ArePairs low ts → length (pairs_text ts) ≤ 51 * length ts
pairs_short low [] are = omega arith
pairs_short low (t ∷ ts) are = omega (arith, length-append (pair_text t) (pairs_text ts), pair_short t are.1, pairs_short (t.0 + 1) ts are.2)

split_short : (unknown : ℕ) (floor : ℤ) → IsSplit unknown floor → length (split_text unknown floor) ≤ 50
split_short unknown floor is =
    let high = is.high in
    let large : 2 ^ 126 < 2 ^ 127 = lit< tt in
    let number = number_short floor is.low (omega (arith, ints)) in
    omega (arith, length-append (decimal unknown) (codes " " ++ signed_decimal floor), row_short unknown is.number, number)

-- a node that can be written and has few pairs is short
node_short : (unknowns limit : ℕ) (n : Node) → 51 * unknowns + 64 ≤ limit → IsNode n → HasFewPairs unknowns n → IsShort limit n
node_short unknowns limit (node.Leaf ts) room is few = omega (arith, pairs_short 0 ts is.1, few, room)
node_short unknowns limit node.Extend room is few = omega (arith, room)
node_short unknowns limit (node.Split unknown floor) room is few = omega (arith, split_short unknown floor is, room)
node_short unknowns limit (node.Guard guard) room is few = omega (arith, row_short guard is, room)
node_short unknowns limit (node.Order before after) room is few = omega
    (arith, length-append (decimal before) (codes " " ++ decimal after), row_short before is.0, row_short after is.1, room)
node_short unknowns limit (node.Stuck rule) room is few = omega (arith, row_short rule is, room)

pub nodes_short : (unknowns : ℕ) (ns : List Node) → AllByRecursion IsNode ns → AllByRecursion (HasFewPairs unknowns) ns
    → (limit : ℕ) → 51 * unknowns + 64 ≤ limit → AllByRecursion (IsShort limit) ns
nodes_short unknowns [] are few limit room = tt
nodes_short unknowns (n ∷ ns) are few limit room = (
  node_short unknowns limit n room are.0 few.0,
  nodes_short unknowns ns are.1 few.1 limit room,
)

-- a node that stands at a legal word of a claim has few pairs
node_few : (claim : Claim) (a : Automaton) (p : Pattern) (pairs : List (ℕ × ℕ)) (w : Pending Element) (n : Node) → PatternOver a p → IsNarrow a
    → LegalWord a p w.start w.past → NodeAt (search_for claim a p pairs) w n → HasFewPairs 4656 n
node_few claim a p pairs w (node.Leaf ts) over narrow legal stands =
    let s = stands.refuted.system in
    let unknowns = stands.refuted.is.unknowns in
    omega (
      arith,
      few_multipliers s ts stands.refuted.holds,
      few_unknowns a narrow p w.start w.past over legal,
      claim_unknowns claim a p pairs w.start
          w.past,
    )
node_few claim a p pairs w n over narrow legal stands = tt

-- each node that is visited has few pairs
pub nodes_few : (claim : Claim) (a : Automaton) (p : Pattern) (pairs : List (ℕ × ℕ)) → PatternOver a p → IsNarrow a
    → (most : ℕ) (ws : List (Pending Element)) (ns : List Node) (rest : List (Pending Element)) → AllByRecursion (Waits (search_for claim a p pairs) most) ws
    → Visits (search_for claim a p pairs) ws ns rest → AllByRecursion (HasFewPairs 4656) ns
nodes_few claim a p pairs over narrow most ws [] rest all v = tt
nodes_few claim a p pairs over narrow most [] (n ∷ ns) rest all v = absurd v
nodes_few claim a p pairs over narrow most (w ∷ ws) (n ∷ ns) rest all v =
    let s = search_for claim a p pairs in (
      node_few claim a p pairs w n over narrow (claim_legal claim a p pairs w.start w.past all.0.comes) v.0,
      nodes_few claim a p pairs over narrow (most + 1)
          (parts s w n ++ ws) ns rest (next_wait s most w ws n all) v.1,
    )
