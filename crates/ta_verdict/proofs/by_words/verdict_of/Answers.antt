use Rattle.ta_verdict.proofs.Common.{ap, map, subst, sym, pair_of, safety_question, false, holds_by, rules, VerdictFits, tree_size, WitnessFaultOf, IfOk-weaker}
use Rattle.ta_verdict.proofs.VerdictsMade.{run_leaves}
use Rattle.ta_verdict.proofs.by_words.verdict_of.Goals as goal

pub returns-in-Err-clause-holds : goal.returns-in-Err-clause-holds
returns-in-Err-clause-holds c = λ orders budget number p found at.
    let file = c.args.scoped.now.file in
    IfOk-weaker c.unwitnessed.result _ (holds_by false file budget number p)
    (λ v is. subst (holds_by false file budget number p) (sym is.1) (record {
      orders = orders;
      found = found;
      holds = run_leaves (safety_question file (map pair_of orders) p) number budget c.args.node c.args.solution.now at
          (subst (WitnessFaultOf file c.args.solution.now) is.0 c.in-Err.ensures.fault);
    }))
    c.unwitnessed.ensures.overflow

pub returns-in-Err-clause-no_tree : goal.returns-in-Err-clause-no_tree
returns-in-Err-clause-no_tree c = IfOk-weaker c.unwitnessed.result _ _ (λ v is. ap tree_size is.1) c.unwitnessed.ensures.overflow

pub returns-in-Err-clause-fits : goal.returns-in-Err-clause-fits
returns-in-Err-clause-fits c = IfOk-weaker c.unwitnessed.result _ _ (λ v is. subst (VerdictFits c.args.scoped.now.file) (sym is.1) (search rules))
    c.unwitnessed.ensures.overflow
