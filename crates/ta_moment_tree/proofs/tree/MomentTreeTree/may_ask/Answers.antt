use Rattle.ta_moment_tree.proofs.Common.{reverse, sym, ◌∙◌, ask_node, answers, candidate_of, moment_maker, asking_of, search_of_moments}
use Rattle.ta_moments.specs.Moments.{known}
use Rattle.ta_moment_tree.proofs.Asked.{asked_if, tells}
use Rattle.ta_moment_tree.proofs.tree.MomentTreeTree.may_ask.Goals as goal

pub returns-in-Some : goal.returns-in-Some
returns-in-Some c =
    let t = c.args.self.now in
    let a = t.task.automaton.now in
    let p = t.task.pattern.now in
    let past = reverse c.args.facts.now in
    let q = c.in-Some.question in
    tells (search_of_moments t) c.args.start past (ask_node c.args.ask) c.may_be_asked.result
    (answers a (known a p t.silent.now (candidate_of c.args.start) past) q)
    (asked_if a p (asking_of t) (moment_maker a p (asking_of t)) c.args.start past c.args.ask q c.may_be_asked.result (sym c.question_in.ensures ∙ c.in-Some.is)
    (c.may_be_asked.ensures (candidate_of c.args.start)))
