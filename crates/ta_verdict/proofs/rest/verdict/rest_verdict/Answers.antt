use Rattle.ta_verdict.proofs.Common.{search_of_claim, visit_of}
use Rattle.ta_verdict.proofs.rest.Common.{OwnVerdict, words_within, rest_question, rest_search, overflow_holds, said_of}
use Rattle.ta_verdict.proofs.rest.VerdictsTold.{nothing_kept, safe_verdict, solution_found, spent_verdict}
use Rattle.ta_walk.specs.declared.end.VisitEnd.TheVariants as visit
use Rattle.ta_verdict.proofs.rest.verdict.rest_verdict.Goals as goal

pub verdict_of-requires-clause-solution : goal.verdict_of-requires-clause-solution
verdict_of-requires-clause-solution g c =
    solution_found c.args.rest.now.ending.file c.args.pattern c.requires.exists c.args.nodes c.in-Found.count c.in-Found.solution
    (λ p at. visit_of (search_of_claim c.new-tree.result) (rest_search c.args.rest.now.ending.file.automaton p) c.new-tree.result.number c.args.pattern
    c.args.nodes (λ ns. Unit {0}) (visit.Found c.in-Found.count c.in-Found.solution) (c.new-tree.ensures.search p at) c.new-tree.ensures.number
    (rw c.in-Found.is at c.in_ok-count.ensures.ends))

pub returns-in-Refuted-clause-holds : goal.returns-in-Refuted-clause-holds
returns-in-Refuted-clause-holds g c = λ p at.
    safe_verdict c.args.rest.now c.args.nodes c.args.pattern p _ c.in-Refuted.count c.in-Refuted.leaves at c.requires.narrow c.requires.limit
    (visit_of (search_of_claim c.new-tree.result) (rest_search c.args.rest.now.ending.file.automaton p) c.new-tree.result.number c.args.pattern c.args.nodes _
    (visit.Refuted c.in-Refuted.count c.in-Refuted.leaves) (c.new-tree.ensures.search p at) c.new-tree.ensures.number
    (rw c.in-Refuted.is at c.in_ok-count.ensures.ends))

pub returns-in-Overflow-clause-holds : goal.returns-in-Overflow-clause-holds
returns-in-Overflow-clause-holds g c = λ p at file ends own named.
    let rest = c.args.rest.now in
    overflow_holds (rest_question file rest.ending.file rest.added own p) c.args.pattern c.args.nodes c.in-Overflow.node c.in-Overflow.kind c.report_kind.result
    c.report_kind.ensures
    (visit_of (search_of_claim c.new-tree.result) (rest_search c.args.rest.now.ending.file.automaton p) c.new-tree.result.number c.args.pattern c.args.nodes
    (λ ns. Unit {0}) (visit.Overflow c.in-Overflow.node c.in-Overflow.kind) (c.new-tree.ensures.search p at) c.new-tree.ensures.number
    (rw c.in-Overflow.is at c.in_ok-count.ensures.ends))

pub returns-in-Found-clause-kept : goal.returns-in-Found-clause-kept
returns-in-Found-clause-kept g c = nothing_kept c.args.rest.now.ending.file c.args.pattern c.args.nodes _ c.verdict_of.result c.verdict_of.ensures.other

pub returns-in-Spent-clause-holds : goal.returns-in-Spent-clause-holds
returns-in-Spent-clause-holds g c = λ p at.
    spent_verdict c.args.rest.now c.args.nodes c.args.pattern p c.in-Spent.count
    (visit_of (search_of_claim c.new-tree.result) (rest_search c.args.rest.now.ending.file.automaton p) c.new-tree.result.number c.args.pattern c.args.nodes
    (λ ns. Unit {0}) (visit.Spent c.in-Spent.count) (c.new-tree.ensures.search p at) c.new-tree.ensures.number (rw c.in-Spent.is at c.in_ok-count.ensures.ends))

pub returns-in-Refuted-clause-kept : goal.returns-in-Refuted-clause-kept
returns-in-Refuted-clause-kept g c = λ p at.
    visit_of (search_of_claim c.new-tree.result) (rest_search c.args.rest.now.ending.file.automaton p) c.new-tree.result.number c.args.pattern c.args.nodes _
    (visit.Refuted c.in-Refuted.count c.in-Refuted.leaves) (c.new-tree.ensures.search p at) c.new-tree.ensures.number
    (rw c.in-Refuted.is at c.in_ok-count.ensures.ends)

pub returns-in-Found-clause-holds : goal.returns-in-Found-clause-holds
returns-in-Found-clause-holds g c =
    let rest = c.args.rest.now in
    let number = c.args.pattern in
    said_of rest.ending.file number c.verdict_of.result (λ p. OwnVerdict rest (words_within c.args.nodes) number p)
    (λ p at.
    c.verdict_of.ensures.holds c.args.nodes number p
    (visit_of (search_of_claim c.new-tree.result) (rest_search rest.ending.file.automaton p) c.new-tree.result.number number c.args.nodes (λ ns. Unit {0})
    (visit.Found c.in-Found.count c.in-Found.solution) (c.new-tree.ensures.search p at) c.new-tree.ensures.number
    (rw c.in-Found.is at c.in_ok-count.ensures.ends)))
