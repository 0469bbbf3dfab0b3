use Rattle.ta_walk.proofs.Common.{◌∙◌, ap, refl, Values, next_question, bounded_node}
use Rattle.ta_walk.specs.Values.{values_of}
use Rattle.ta_walk.proofs.asking.vertex_question.Goals as goal

pub returns : goal.returns
returns c asking candidate bounds rest silent node =
    let t = c.args.encoding.now.plan.task in
    let here = bounded_node candidate c.args.facts.now bounds in
    c.next_question.ensures.node t.automaton.now t.pattern.now asking here refl
    (c.in_ok-parts.ensures.parts asking candidate c.args.facts.now bounds rest silent node)
    ∙ ap (λ (v : Values). next_question t.automaton.now t.pattern.now asking here v) (ap values_of c.as_ref.ensures.value ∙ c.in_ok-vertex.ensures)
