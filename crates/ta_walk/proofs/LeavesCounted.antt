-- the leaves among nodes
use Rattle.ta_walk.proofs.Common.{◌≡◌, ◌+◌, ◌≤◌, ◌<◌, ℕ, List, [], ◌∷◌, ◌++◌, length, arith, Node, leaf_count}
use Rattle.ta_cert.specs.declared.line.Node.TheVariants as node

pub leaves_more : (ns : List Node) (n : Node) → leaf_count (ns ++ n ∷ []) ≡ leaf_count ns + leaf_count (n ∷ [])
leaves_more [] n = omega arith
leaves_more (node.Leaf ts ∷ ns) n = let rest = leaves_more ns n in omega arith
leaves_more (m ∷ ns) n = leaves_more ns n

pub leaves_few : (ns : List Node) → leaf_count ns ≤ length ns
leaves_few [] = omega arith
leaves_few (node.Leaf ts ∷ ns) = let rest = leaves_few ns in omega arith
leaves_few (n ∷ ns) = let rest = leaves_few ns in omega arith

pub leaves_below : (ns : List Node) (count leaves budget : ℕ) → leaves ≡ leaf_count ns → length ns ≡ count → count < budget → budget ≤ 1000000000
    → leaves < 1000000000
leaves_below ns count leaves budget counted done below limit = let few = leaves_few ns in omega arith
