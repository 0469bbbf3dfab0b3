use Rattle.ta_check.proofs.Common.{[], subst, err_is, CheckerFinishAnswers, subject_of, Subject}
use Rattle.ta_check.proofs.Answering.{exact_answer, refused_answer, finished_accepts, finished_faults, fed_faults}
use Rattle.ta_check.proofs.checking.judge_whole.Goals as goal

pub returns-in_err-feed-clause-fault : goal.returns-in_err-feed-clause-fault
returns-in_err-feed-clause-fault c =
    let same = c.feed.ensures.subject in
    rw (err_is c.from_residual.result _ c.from_residual.ensures.1)
    (fed_faults c.feed.new.self (subject_of c.args.checker) c.args.text.now c.in_err-feed.field-0.0 same (c.in_err-feed.ensures.answer [] c.requires))

pub returns-in_err-feed-clause-refused : goal.returns-in_err-feed-clause-refused
returns-in_err-feed-clause-refused c = refused_answer (subject_of c.args.checker) c.args.text.now c.from_residual.result (returns-in_err-feed-clause-fault c)

pub returns-in_err-feed-clause-exact : goal.returns-in_err-feed-clause-exact
returns-in_err-feed-clause-exact c =
    exact_answer (subject_of c.args.checker) c.args.text.now c.from_residual.result (rw (err_is c.from_residual.result _ c.from_residual.ensures.1) tt)
    (returns-in_err-feed-clause-fault c)

pub returns-clause-accepted : goal.returns-clause-accepted
returns-clause-accepted c =
    let same = c.feed.ensures.subject in
    let answer = c.finish.ensures.answer c.args.text.now (c.in_ok-feed.ensures.answer [] c.requires) in
    finished_accepts (subject_of c.args.checker) c.args.text.now c.finish.result
    (subst (λ (f : Subject). CheckerFinishAnswers f c.args.text.now c.finish.result) same answer)

pub returns-clause-fault : goal.returns-clause-fault
returns-clause-fault c =
    let same = c.feed.ensures.subject in
    let answer = c.finish.ensures.answer c.args.text.now (c.in_ok-feed.ensures.answer [] c.requires) in
    finished_faults (subject_of c.args.checker) c.args.text.now c.finish.result
    (subst (λ (f : Subject). CheckerFinishAnswers f c.args.text.now c.finish.result) same answer)

pub returns-clause-refused : goal.returns-clause-refused
returns-clause-refused c = refused_answer (subject_of c.args.checker) c.args.text.now c.finish.result (returns-clause-fault c)

pub returns-clause-exact : goal.returns-clause-exact
returns-clause-exact c = exact_answer (subject_of c.args.checker) c.args.text.now c.finish.result (returns-clause-accepted c) (returns-clause-fault c)
