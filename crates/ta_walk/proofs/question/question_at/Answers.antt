use Rattle.ta_walk.proofs.Common.{◌∙◌, ℕ, ◌≤◌, ◌^◌, [], refl, sym, subst, IfOk-weaker, candidate_of, moment_maker, asking_of}
use Rattle.ta_moments.specs.Vertices.{values_of}
use Rattle.ta_simplex.specs.Vertex.{parts_of}
use Rattle.ta_walk.proofs.FewMoments.{few_moments}
use Rattle.ta_walk.proofs.NodesKnown.{moments_count, question_moved}
use Rattle.ta_walk.proofs.question.question_at.Goals as goal

pub vertex_question-requires-clause-few : goal.vertex_question-requires-clause-few
vertex_question-requires-clause-few c =
    let t = c.args.tree in
    let a = t.task.automaton.now in
    let p = t.task.pattern.now in
    let past = c.args.past.now in
    subst (λ (n : ℕ). n ≤ 2 ^ 32) (sym (moments_count a p t.silent.now (candidate_of c.args.start) past c.args.node.now c.requires.node))
    (few_moments a p t.task.over (asking_of t) (moment_maker a p (asking_of t)) c.args.start past c.requires.comes)

pub returns : goal.returns
returns c =
    let t = c.args.tree in
    let a = t.task.automaton.now in
    let p = t.task.pattern.now in
    let o = candidate_of c.args.start in
    let past = c.args.past.now in
    let is = c.requires.node in
    let moved = question_moved a p t.silent.now o past c.args.node.now is (asking_of t) [] (values_of (parts_of c.args.values.now)) in
    IfOk-weaker c.vertex_question.result _ _
    (λ question h. h (asking_of t) o [] refl refl is.is ∙ moved)
    c.vertex_question.ensures
