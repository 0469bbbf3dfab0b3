use Rattle.ta_walk.proofs.Common.{◌≡◌, Node, inl, inr, ◌<◌, ◌^◌, arith, refl, rules, FitsSigned, w128, here, SplitVertex, subst, AsksNothing}
use Rattle.std.proofs.Common.{to_z-of_z}
use Rattle.ta_walk.proofs.SplitsFit.{split_fits, split_within}
use Rattle.ta_walk.proofs.WordSoFar.{inside_of}
use Rattle.ta_cert.specs.declared.line.Node.TheVariants as node
use Rattle.ta_walk.proofs.visiting.go_on.Goals as goal

pub split-requires : goal.split-requires
split-requires g c =
    let s = g.T.Tree.search c.args.tree.now in
    let w = here c.args.cursor.now in
    let split : SplitVertex s w c.in-Split.unknown c.in-Split.floor = rw c.in-Split.is at c.requires.stands in
    let number : c.in-Split.unknown < 2 ^ 32 = omega arith in
    let is = split_fits s w c.in-Split.unknown c.in-Split.floor split number in
    let low = is.low in
    let high = is.high in
    let f : FitsSigned w128 c.in-Split.floor = search rules in
    simp to_z-of_z is

pub returns-in-Leaf : goal.returns-in-Leaf
returns-in-Leaf g c = λ w words all.
    let left = c.leave.ensures words (inside_of (g.T.Tree.search c.args.tree.now) c.args.cursor.now w words all) in
    let none : (n : Node) → c.args.node.now ≡ n → AsksNothing n = λ n is. subst AsksNothing is c.in_default.ensures.none in
    elim c.in-Leaf.is [
      | inl leaf ↦ rw leaf.1 left
      | inr more ↦ elim more [
        | inl extend ↦ absurd (none node.Extend extend)
        | inr rest ↦ elim rest [
          | inl guard ↦ absurd (none (node.Guard guard.0) guard.1)
          | inr last ↦ elim last [ inl order ↦ absurd (none (node.Order order.0 order.1) order.2) | inr stuck ↦ absurd (none (node.Stuck stuck.0) stuck.1) ]
        ]
      ]
    ]

pub returns-in_ok-split-in-Split : goal.returns-in_ok-split-in-Split
returns-in_ok-split-in-Split g c = λ w words all.
    let s = g.T.Tree.search c.args.tree.now in
    let split : SplitVertex s (here c.args.cursor.now) c.in-Split.unknown c.in-Split.floor = rw c.in-Split.is at c.requires.stands in
    let unknown = split_within s (here c.args.cursor.now) c.in-Split.unknown c.in-Split.floor split in
    let f : FitsSigned w128 c.in-Split.floor = search rules in
    let told = simp to_z-of_z at (c.in_ok-split-in-Split.ensures s w words all unknown) in
    rw c.in-Split.is (refl, told)
