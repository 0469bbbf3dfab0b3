-- what the question of a node may be of
use Rattle.ta_moment_tree.proofs.Common.{◌≡◌, arith, SmallVector, vector_of, MomentEncoding}
use Rattle.ta_moments.specs.Questions.{Parts}
use Rattle.ta_moment_tree.specs.Nodes.{IsAnyNode}
use Rattle.ta_moment_tree.proofs.Beginning.{vector_more_small}
use Rattle.ta_moment_tree.proofs.Fitting.{draft_fits}

pub end_fits : (node : MomentEncoding) → IsAnyNode node → SmallVector 3 (vector_of node.draft.end.items)
end_fits node h =
    let is = h.is.is in
    vector_more_small 1 3 _ (omega arith)
    (draft_fits node.plan.task.automaton.now node.plan.task.pattern.now h.silent h.is.candidate h.is.past node.draft is.listed is.draft).small

pub parts_same : (one two : Parts) → one.moving ≡ two.moving → one.end ≡ two.end → one.guards ≡ two.guards → one.moments ≡ two.moments → one.rules ≡ two.rules
    → one ≡ two
parts_same one two e f g h k = λ i. record { moving = e i; end = f i; guards = g i; moments = h i; rules = k i }
