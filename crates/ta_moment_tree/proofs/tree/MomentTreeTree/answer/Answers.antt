use Rattle.ta_moment_tree.proofs.Common.{List, cond, Option, Some, None, slice_get, reverse, ap, sym, ◌∙◌, all_or_none, ask_node, Fact, answers, candidate_of}
use Rattle.ta_moment_tree.proofs.Common.{moment_maker, asking_of, search_of_moments}
use Rattle.ta_moments.specs.Moments.{known}
use Rattle.ta_moment_tree.proofs.Asked.{answer_is, asked_if, few_answers}
use Rattle.ta_moment_tree.proofs.Counting.{fewer_next}
use Rattle.ta_moment_tree.proofs.tree.MomentTreeTree.answer.Goals as goal

pub returns-in-Some : goal.returns-in-Some
returns-in-Some c =
    let t = c.args.self.now in
    let a = t.task.automaton.now in
    let p = t.task.pattern.now in
    let past = reverse c.args.facts.now in
    let q = c.in-Some.question in
    let o = candidate_of c.args.start in
    let es = answers a (known a p t.silent.now o past) q in
    let asked = asked_if a p (asking_of t) (moment_maker a p (asking_of t)) c.args.start past c.args.ask q c.may_be_asked.result
    (sym c.question_in.ensures ∙ c.in-Some.is) (c.may_be_asked.ensures o) in
    answer_is (search_of_moments t) c.args.start past (ask_node c.args.ask) c.args.number es c.answer_at.result
    (asked ∙ ap (λ b. cond b (Some es) None) c.if-may_be_asked.true) (c.answer_at.ensures o) (few_answers a (known a p t.silent.now o past) q)
    (fewer_next a p t.silent.now o past)

pub returns-in_default : goal.returns-in_default
returns-in_default c =
    let t = c.args.self.now in
    let a = t.task.automaton.now in
    let p = t.task.pattern.now in
    let past = reverse c.args.facts.now in
    let q = c.in-Some.question in
    let o = candidate_of c.args.start in
    let es = answers a (known a p t.silent.now o past) q in
    let asked = asked_if a p (asking_of t) (moment_maker a p (asking_of t)) c.args.start past c.args.ask q c.may_be_asked.result
    (sym c.question_in.ensures ∙ c.in-Some.is) (c.may_be_asked.ensures o) in
    ap (λ (fs : Option (List Fact)). slice_get (all_or_none fs) c.args.number) (asked ∙ ap (λ b. cond b (Some es) None) c.if-may_be_asked.false)
