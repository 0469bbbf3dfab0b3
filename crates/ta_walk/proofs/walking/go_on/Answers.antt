use Rattle.ta_walk.proofs.Common.{◌≡◌, Node, inl, inr, ◌<◌, ◌^◌, arith, refl, rules, FitsSigned, w128, here_at, SplitVertex, subst, AsksNothing}
use Rattle.std.proofs.Common.{to_z-of_z}
use Rattle.ta_walk.proofs.SplitsFit.{split_fits, split_within}
use Rattle.ta_cert.specs.declared.line.Node.TheVariants as node
use Rattle.ta_walk.proofs.walking.go_on.Goals as goal

pub split-requires-clause-floor : goal.split-requires-clause-floor
split-requires-clause-floor g c =
    let s = g.T.Tree.search c.args.tree.now in
    let w = here_at c.args.place.now in
    let split : SplitVertex s w c.in-Split.unknown c.in-Split.floor = rw c.in-Split.is at c.requires.stands in
    let number : c.in-Split.unknown < 2 ^ 32 = omega arith in
    let is = split_fits s w c.in-Split.unknown c.in-Split.floor split number in
    let low = is.low in
    let high = is.high in
    let f : FitsSigned w128 c.in-Split.floor = search rules in
    simp to_z-of_z is

pub split-requires-clause-unknown : goal.split-requires-clause-unknown
split-requires-clause-unknown g c =
    let s = g.T.Tree.search c.args.tree.now in
    let w = here_at c.args.place.now in
    let split : SplitVertex s w c.in-Split.unknown c.in-Split.floor = rw c.in-Split.is at c.requires.stands in
    split_within s w c.in-Split.unknown c.in-Split.floor split

pub returns-in-Leaf : goal.returns-in-Leaf
returns-in-Leaf g c = λ w words all.
    let left = c.leave.ensures w words all in
    let none : (n : Node) → c.args.node.now ≡ n → AsksNothing n = λ n is. subst AsksNothing is c.in_default.ensures.none in
    elim c.in-Leaf.is [
      | inl leaf ↦ rw leaf.1 left
      | inr more ↦ elim more [
        | inl extend ↦ absurd (none node.Extend extend)
        | inr rest ↦ elim rest [
          | inl guard ↦ absurd (none (node.Guard guard.0) guard.1)
          | inr last ↦ elim last [ inl order ↦ absurd (none (node.Order order.0 order.1) order.2) | inr stuck ↦ absurd (none (node.Stuck stuck.0) stuck.1) ]
        ]
      ]
    ]

pub returns-in_ok-split-in-Split : goal.returns-in_ok-split-in-Split
returns-in_ok-split-in-Split g c = λ w words all.
    let f : FitsSigned w128 c.in-Split.floor = search rules in
    let told = simp to_z-of_z at (c.in_ok-split-in-Split.ensures w words all) in
    rw c.in-Split.is (refl, told)
