-- the nodes of a walk can be written
use Rattle.ta_walk.proofs.Common.{ℕ, ◌+◌, ◌<◌, ◌≤◌, ◌^◌, ℤ, List, [], ◌∷◌, length, arith, subst, below_limit, InRange, coefficient, AreMultipliers, System}
use Rattle.ta_walk.proofs.Common.{Node, ArePairs, IsNode, variables, NodeAt, SystemAt, Pending, Search, MayAsk}
use Rattle.ta_walk.proofs.TableausInRange.{multipliers_fit}
use Rattle.ta_walk.proofs.SplitsFit.{split_within, split_fits}
use Rattle.ta_simplex.proofs.MultiplierCoefficients.{coefficient_first, coefficient_after}
use Rattle.ta_cert.specs.declared.line.Node.TheVariants as node

-- multipliers in range are pairs
pub are_pairs : (low count : ℕ) (ts : List (ℕ × ℤ)) → count ≤ 2 ^ 32 → AreMultipliers low count ts
    → ((k : ℕ) → low ≤ k → k < count → InRange (coefficient ts k)) → ArePairs low ts
are_pairs low count [] few all fits = tt
are_pairs low count (t ∷ ts) few all fits =
    let first = all.0 in
    let inside = all.1 in
    let here = coefficient_first low count t ts all in (
      all.0,
      record { row = omega arith; low = all.2; high = below_limit t.1 (2 ^ 127) all.2 (subst InRange here (fits t.0 all.0 all.1)) },
      are_pairs (t.0 + 1) count ts few all.3 (λ k from below. subst InRange (coefficient_after t ts k (omega arith)) (fits k (omega arith) below)),
    )

-- a node that stands at a word of few variables can be written, where each can that may ask there
pub node_written : {E : Type 0} (search : Search E) (w : Pending E) (n : Node) → ((s : System) → SystemAt search w s → variables s < 2 ^ 32)
    → ((m : Node) → MayAsk search w.start w.past m → IsNode m) → NodeAt search w n → IsNode n
node_written search w (node.Leaf ts) few asks at =
    let s = at.refuted.system in
    let is = at.refuted.holds in
    let room = few s at.refuted.is in
    (is.multipliers.some, are_pairs 0 (length s.rows) ts (omega arith) is.multipliers.leaf.multipliers (λ k from inside. multipliers_fit s ts is k inside))
node_written search w (node.Split unknown floor) few asks at =
    let room = few at.vertex.system at.vertex.is in
    let unknowns = at.vertex.is.unknowns in
    let below = split_within search w unknown floor at in
    split_fits search w unknown floor at (omega arith)
node_written search w n few asks at = asks n at.may
