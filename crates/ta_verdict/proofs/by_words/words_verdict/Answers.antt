use Rattle.ta_verdict.proofs.Common.{◌≡◌, List, subst, ℕ, pattern_search, loops_pure, NodeOf, SolutionAt, TreeIs, Overflow, SpentHolds, VerdictAnswers, false}
use Rattle.ta_verdict.proofs.Common.{holds_by, safety_question, search_of_claim, visit_of}
use Rattle.ta_verdict.proofs.VerdictsMade.{overflow_holds, safe_holds, said_of, solution_found, spent_holds, under}
use Rattle.ta_walk.specs.declared.end.VisitEnd.TheVariants as visit
use Rattle.ta_verdict.proofs.by_words.words_verdict.Goals as goal

pub verdict_of-requires-clause-solution : goal.verdict_of-requires-clause-solution
verdict_of-requires-clause-solution g c =
    let s = c.args.scoped.now in
    solution_found s.file c.args.pattern c.requires.exists c.args.found.now.orders c.args.nodes c.in-Found.count c.in-Found.solution
    (λ p at. visit_of (search_of_claim c.new-tree.result) (pattern_search s.file.automaton p c.args.found.now.orders) c.new-tree.result.number c.args.pattern
    c.args.nodes (λ ns. Unit {0}) (visit.Found c.in-Found.count c.in-Found.solution) (c.new-tree.ensures.search p at) c.new-tree.ensures.number
    (rw c.in-Found.is at c.in_ok-count.ensures.ends))

pub returns-in-Refuted-clause-holds : goal.returns-in-Refuted-clause-holds
returns-in-Refuted-clause-holds g c = λ p at.
    let s = c.args.scoped.now in
    let tree = visit_of (search_of_claim c.new-tree.result) (pattern_search s.file.automaton p c.args.found.now.orders) c.new-tree.result.number c.args.pattern
    c.args.nodes _ (visit.Refuted c.in-Refuted.count c.in-Refuted.leaves) (c.new-tree.ensures.search p at) c.new-tree.ensures.number
    (rw c.in-Refuted.is at c.in_ok-count.ensures.ends) in
    safe_holds s.file c.args.pattern p at c.requires.narrow
    (loops_pure s.file.automaton s.in_scope) c.args.found.now.list c.args.found.now.orders c.requires.found.orders
    c.requires.found.pairs c.args.nodes c.requires.limit tree.nodes c.in-Refuted.count c.in-Refuted.leaves tree.is tree.counted

pub returns-in-Refuted-clause-drafted : goal.returns-in-Refuted-clause-drafted
returns-in-Refuted-clause-drafted g c = λ p at nodes size.
    let file = c.args.scoped.now.file in
    let budget = c.args.nodes in
    let tree = visit_of (search_of_claim c.new-tree.result) (pattern_search file.automaton p c.args.found.now.orders) c.new-tree.result.number c.args.pattern
    c.args.nodes _ (visit.Refuted c.in-Refuted.count c.in-Refuted.leaves) (c.new-tree.ensures.search p at) c.new-tree.ensures.number
    (rw c.in-Refuted.is at c.in_ok-count.ensures.ends) in
    let same : c.in-Refuted.count ≡ nodes = cc in (
      tree.nodes,
      under file (λ pairs. TreeIs (pattern_search file.automaton p pairs) budget tree.nodes nodes) c.args.found.now.list c.args.found.now.orders
          c.requires.found.orders c.requires.found.pairs
          (subst (λ (n : ℕ). TreeIs (pattern_search file.automaton p c.args.found.now.orders) budget tree.nodes n) same tree.is),
      tree.kept,
    )

pub returns-in-Spent-clause-holds : goal.returns-in-Spent-clause-holds
returns-in-Spent-clause-holds g c = λ p at.
    let file = c.args.scoped.now.file in
    let budget = c.args.nodes in
    let spent = visit_of (search_of_claim c.new-tree.result) (pattern_search file.automaton p c.args.found.now.orders) c.new-tree.result.number c.args.pattern
    c.args.nodes (λ ns. Unit {0}) (visit.Spent c.in-Spent.count) (c.new-tree.ensures.search p at) c.new-tree.ensures.number
    (rw c.in-Spent.is at c.in_ok-count.ensures.ends) in
    under file (λ pairs. SpentHolds (safety_question file pairs p) budget c.in-Spent.count) c.args.found.now.list c.args.found.now.orders
    c.requires.found.orders c.requires.found.pairs (spent_holds file c.args.found.now.orders p budget c.in-Spent.count spent)

pub returns-in-Overflow-clause-holds : goal.returns-in-Overflow-clause-holds
returns-in-Overflow-clause-holds g c = λ p at.
    let file = c.args.scoped.now.file in
    let budget = c.args.nodes in
    let left = visit_of (search_of_claim c.new-tree.result) (pattern_search file.automaton p c.args.found.now.orders) c.new-tree.result.number c.args.pattern
    c.args.nodes (λ ns. Unit {0}) (visit.Overflow c.in-Overflow.node c.in-Overflow.kind) (c.new-tree.ensures.search p at) c.new-tree.ensures.number
    (rw c.in-Overflow.is at c.in_ok-count.ensures.ends) in
    under file (λ pairs. VerdictAnswers (safety_question file pairs p) budget c.args.pattern (Overflow c.in-Overflow.node c.report_kind.result))
    c.args.found.now.list c.args.found.now.orders c.requires.found.orders c.requires.found.pairs
    (overflow_holds (safety_question file c.args.found.now.orders p) c.args.pattern budget c.in-Overflow.node c.in-Overflow.kind c.report_kind.result
    c.report_kind.ensures left)

pub returns-in-Found-clause-holds : goal.returns-in-Found-clause-holds
returns-in-Found-clause-holds g c =
    let file = c.args.scoped.now.file in
    let number = c.args.pattern in
    said_of file number c.verdict_of.result (λ p. holds_by false file c.args.nodes number p)
    (λ p at.
    c.verdict_of.ensures.holds c.args.found.now.list c.args.nodes number p c.requires.found.orders
    (subst (λ (pairs : List (ℕ × ℕ)). NodeOf (pattern_search file.automaton p pairs) c.args.nodes c.in-Found.count
    (SolutionAt (pattern_search file.automaton p pairs) number c.in-Found.solution)) c.requires.found.pairs
    (visit_of (search_of_claim c.new-tree.result) (pattern_search file.automaton p c.args.found.now.orders) c.new-tree.result.number number c.args.nodes
    (λ ns. Unit {0}) (visit.Found c.in-Found.count c.in-Found.solution) (c.new-tree.ensures.search p at) c.new-tree.ensures.number
    (rw c.in-Found.is at c.in_ok-count.ensures.ends))))
