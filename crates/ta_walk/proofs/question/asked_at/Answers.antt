use Rattle.ta_walk.proofs.Common.{◌≡◌, ◌∙◌, List, [], reverse, Some, ap, sym, subst, option_map, MayAsk, Fact, next_question, asking_node, candidate_of}
use Rattle.ta_walk.proofs.Common.{bounded_node, moment_maker, asking_of, search_of_moments}
use Rattle.ta_cert.specs.declared.line.Node.{Node as TreeNode}
use Rattle.ta_moments.specs.Vertices.{values_of}
use Rattle.ta_simplex.specs.Vertex.{parts_of}
use Rattle.ta_walk.proofs.QuestionsAsked.{question_may}
use Rattle.ta_walk.proofs.question.asked_at.Goals as goal

pub returns : goal.returns
returns c =
    let t = c.args.tree in
    let a = t.task.automaton.now in
    let p = t.task.pattern.now in
    let asking = asking_of t in
    let o = candidate_of c.args.start in
    let past = reverse c.args.facts.now in
    let values = values_of (parts_of c.args.values.now) in
    let q = c.in-Some.question in
    let newest : c.as_slice.result.now ≡ past = c.as_slice.ensures.value ∙ c.in_ok-past.ensures in
    let next : next_question a p asking (bounded_node o past []) values ≡ Some q =
    subst (λ (xs : List Fact). next_question a p asking (bounded_node o xs []) values ≡ Some q) newest (sym c.in_ok-question_at.ensures ∙ c.in-Some.is) in
    let may = c.questions_may_be_asked.ensures a p asking (bounded_node o past []) values q next in
    let open_here = question_may a p asking (moment_maker a p asking) c.args.start past q may.0 may.1 in
    record {
      question = ap (option_map asking_node) next ∙ ap (λ (n : TreeNode). Some n) (sym c.ask_of.ensures);
      may = subst (λ (n : TreeNode). MayAsk (search_of_moments t) c.args.start past n) (sym c.ask_of.ensures) open_here;
    }
