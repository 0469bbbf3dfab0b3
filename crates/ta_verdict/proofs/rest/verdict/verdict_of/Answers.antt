use Rattle.ta_verdict.proofs.Common.{IfOk-weaker}
use Rattle.ta_verdict.proofs.rest.Common.{subst, sym, rest_question, IsNotSafe, OwnVerdict, words_within, rules, VerdictFits, WitnessFaultOf, run_leaves}
use Rattle.ta_verdict.proofs.rest.verdict.verdict_of.Goals as goal

pub returns-in-Err-clause-holds : goal.returns-in-Err-clause-holds
returns-in-Err-clause-holds c = λ budget number p at.
    let rest = c.args.rest.now in
    IfOk-weaker c.unwitnessed.result _ (OwnVerdict rest (words_within budget) number p)
    (λ v is. subst (OwnVerdict rest (words_within budget) number p) (sym is.1)
    (λ file ends own named. run_leaves (rest_question file rest.ending.file rest.added own p) number budget c.args.node c.args.solution.now at
    (subst (WitnessFaultOf rest.ending.file c.args.solution.now) is.0 c.in-Err.ensures.fault)))
    c.unwitnessed.ensures.overflow

pub returns-in-Err-clause-fits : goal.returns-in-Err-clause-fits
returns-in-Err-clause-fits c = IfOk-weaker c.unwitnessed.result _ _ (λ v is. subst (VerdictFits c.args.rest.now.ending.file) (sym is.1) (search rules))
    c.unwitnessed.ensures.overflow

pub returns-in-Err-clause-other : goal.returns-in-Err-clause-other
returns-in-Err-clause-other c = IfOk-weaker c.unwitnessed.result _ _ (λ v is. subst IsNotSafe (sym is.1) tt) c.unwitnessed.ensures.overflow
