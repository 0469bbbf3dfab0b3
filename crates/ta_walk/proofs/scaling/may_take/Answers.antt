use Rattle.ta_walk.proofs.Common.{◌∙◌, ◌++◌, Bool, List, Some, ap, refl, sym, list_all, is_some, IfOk-weaker, Row, is_known_natural, known_value, next_question}
use Rattle.ta_walk.proofs.Common.{forms_of, bound_forms, bounded_node, asking_of}
use Rattle.std.proofs.Common.{◌&&◌, not}
use Rattle.ta_moments.specs.Forms.{UnknownForm}
use Rattle.ta_walk.specs.Values.{values_of}
use Rattle.ta_walk.proofs.NodesKnown.{may_is}
use Rattle.ta_walk.proofs.scaling.may_take.Goals as goal

pub returns-then-met : goal.returns-then-met
returns-then-met c =
    let t = c.args.tree in
    let a = t.task.automaton.now in
    let p = t.task.pattern.now in
    let v = c.args.vertex.now in
    let bounds = c.args.bounds.now in
    let test : UnknownForm → Bool = λ f. is_known_natural (known_value (values_of (Some v)) f) in
    let met = c.in_ok-met.ensures ∙ ap (λ (rows : List Row). list_all test (forms_of rows ++ bound_forms bounds)) c.requires.rows in
    let may = may_is a p (asking_of t) in
    IfOk-weaker c.is_settled.result _ _
    (λ settled h candidate is.
    sym (ap (λ (b : Bool). b && settled) c.if-met.true)
    ∙ may candidate c.args.past.now c.args.node.now is bounds v c.requires.whole c.in_ok-met.met settled met (h candidate bounds is))
    c.is_settled.ensures

pub returns-else-met : goal.returns-else-met
returns-else-met c candidate is =
    let t = c.args.tree in
    let a = t.task.automaton.now in
    let p = t.task.pattern.now in
    let v = c.args.vertex.now in
    let past = c.args.past.now in
    let bounds = c.args.bounds.now in
    let test : UnknownForm → Bool = λ f. is_known_natural (known_value (values_of (Some v)) f) in
    let met = c.in_ok-met.ensures ∙ ap (λ (rows : List Row). list_all test (forms_of rows ++ bound_forms bounds)) c.requires.rows in
    let settled = not (is_some (next_question a p (asking_of t) (bounded_node candidate past bounds) (values_of (Some v)))) in
    sym (ap (λ (b : Bool). b && settled) c.if-met.false)
    ∙ may_is a p (asking_of t) candidate past c.args.node.now is bounds v c.requires.whole c.in_ok-met.met settled met refl
