use Rattle.ta_smt.proofs.Common.{subst, err_is, asked, PassesCheck, WordFault}
use Rattle.ta_smt.proofs.Admitted.{admits, complete_is, incomplete_is, line_fault, run_fault, solution_from, word_fault}
use Rattle.ta_smt.proofs.admitting.admit.Goals as goal

pub returns-then-not-is_complete-clause-fault : goal.returns-then-not-is_complete-clause-fault
returns-then-not-is_complete-clause-fault c =
    incomplete_is c.args.scoped.now.file (asked c.args.pattern c.args.start_mask c.args.word.now) c.of.result c.is_complete.result c.of.ensures.pattern
    (rw c.elements.ensures at c.is_complete.ensures) c.if-not-is_complete.true

pub returns-in_err-values-clause-fault : goal.returns-in_err-values-clause-fault
returns-in_err-values-clause-fault c =
    let file = c.args.scoped.now.file in
    let word = asked c.args.pattern c.args.start_mask c.args.word.now in
    let complete = complete_is file word c.of.result c.is_complete.result c.of.ensures.pattern (rw c.elements.ensures at c.is_complete.ensures)
    c.if-not-is_complete.false in
    rw (err_is c.from_residual.result _ c.from_residual.ensures.1)
    (line_fault file word c.args.bytes.now c.in_err-values.field-0.0 complete c.in_err-values.ensures.fault)

pub returns-in_err-check_word-clause-fault : goal.returns-in_err-check_word-clause-fault
returns-in_err-check_word-clause-fault c =
    let file = c.args.scoped.now.file in
    let word = asked c.args.pattern c.args.start_mask c.args.word.now in
    let complete = complete_is file word c.of.result c.is_complete.result c.of.ensures.pattern (rw c.elements.ensures at c.is_complete.ensures)
    c.if-not-is_complete.false in
    let bad = subst (λ vs. WordFault file word vs c.in_err-check_word.field-0.0) c.as_slice.ensures.value c.in_err-check_word.ensures.fault in
    rw (err_is c.from_residual-in_err-check_word.result _ c.from_residual-in_err-check_word.ensures.1)
    (word_fault file word c.args.bytes.now c.in_ok-values.values.items c.in_err-check_word.field-0.0 complete c.in_ok-values.ensures.values bad)

pub run_of-requires-clause-solves : goal.run_of-requires-clause-solves
run_of-requires-clause-solves c =
    let file = c.args.scoped.now.file in
    let word = asked c.args.pattern c.args.start_mask c.args.word.now in
    let complete = complete_is file word c.of.result c.is_complete.result c.of.ensures.pattern (rw c.elements.ensures at c.is_complete.ensures)
    c.if-not-is_complete.false in
    let passes = subst (PassesCheck file word) c.as_slice.ensures.value c.in_ok-check_word.ensures.passes in
    solution_from file word c.in_ok-values.values.items complete c.requires.legal c.in_ok-values.ensures.values.numbers passes

pub returns-in_err-run-clause-fault : goal.returns-in_err-run-clause-fault
returns-in_err-run-clause-fault c =
    let file = c.args.scoped.now.file in
    let word = asked c.args.pattern c.args.start_mask c.args.word.now in
    let complete = complete_is file word c.of.result c.is_complete.result c.of.ensures.pattern (rw c.elements.ensures at c.is_complete.ensures)
    c.if-not-is_complete.false in
    let passes = subst (PassesCheck file word) c.as_slice.ensures.value c.in_ok-check_word.ensures.passes in
    let solution = solution_from file word c.in_ok-values.values.items complete c.requires.legal c.in_ok-values.ensures.values.numbers passes in
    rw (err_is c.from_residual-in_err-run.result _ c.from_residual-in_err-run.ensures.1)
    (run_fault file word c.args.bytes.now c.in_ok-values.values.items c.in_err-run.field-0.0 complete c.in_ok-values.ensures.values passes solution
    c.in_err-run.ensures.fault)

pub returns-clause-run : goal.returns-clause-run
returns-clause-run c =
    let file = c.args.scoped.now.file in
    let word = asked c.args.pattern c.args.start_mask c.args.word.now in
    let complete = complete_is file word c.of.result c.is_complete.result c.of.ensures.pattern (rw c.elements.ensures at c.is_complete.ensures)
    c.if-not-is_complete.false in
    let passes = subst (PassesCheck file word) c.as_slice.ensures.value c.in_ok-check_word.ensures.passes in
    let solution = solution_from file word c.in_ok-values.values.items complete c.requires.legal c.in_ok-values.ensures.values.numbers passes in
    admits file word c.args.bytes.now c.in_ok-values.values.items c.in_ok-run.run' c.in_ok-values.ensures.values passes solution c.in_ok-run.ensures.run
