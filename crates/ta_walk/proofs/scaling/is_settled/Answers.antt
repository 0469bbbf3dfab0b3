use Rattle.ta_walk.proofs.Common.{◌∙◌, Option, Some, ap, refl, is_some, Question, bounded_node, asking_of}
use Rattle.std.proofs.Common.{not}
use Rattle.ta_walk.proofs.NodesKnown.{question_moved, turned}
use Rattle.ta_walk.specs.Values.{values_of}
use Rattle.ta_walk.proofs.scaling.is_settled.Goals as goal

pub returns : goal.returns
returns c candidate bounds is =
    let t = c.args.tree in
    let node = c.args.node.now in
    let past = c.args.past.now in
    let asking = asking_of t in
    let at = c.in_ok-parts.ensures.parts asking candidate past bounds refl refl is.is in
    let here = bounded_node candidate past bounds in
    let next = c.next_question.ensures.node node.plan.task.automaton.now node.plan.task.pattern.now asking here refl at in
    let values = values_of (Some c.args.vertex.now) in
    let moved = question_moved t.task.automaton.now t.task.pattern.now t.silent.now candidate past node is asking bounds values in
    turned (is_some c.next_question.result) c.is_none.result c.is_none.ensures
    ∙ ap (λ (o : Option Question). not (is_some o)) (next ∙ moved)
