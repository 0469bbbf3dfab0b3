use Rattle.ta_verdict.proofs.rest.Common.{◌++◌, [], List, append-nil, refl, subst, sym, proofs_text, Verdict, AreTreesOf, safe_picked, ended_line, rest_head}
use Rattle.ta_verdict.proofs.rest.Common.{rest_tree, resting}
use Rattle.ta_verdict.proofs.JudgedSoFar.{err_any}
use Rattle.ta_verdict.proofs.rest.CertificatesMade.{rest_accepted, rest_made}
use Rattle.ta_cert.specs.declared.line.Line.TheVariants as line
use Rattle.ta_verdict.proofs.rest.judging.judge_rest_to.Goals as goal

pub returns-clause-certificate : goal.returns-clause-certificate
returns-clause-certificate g c = λ begun has.
    let file = c.args.rest.now.ending.file in
    let budget = resting c.args.budget c.args.silent.now in
    let head = rest_head c.args.budget.lazy in
    let first = c.in_ok-add.ensures.added begun [] head has c.in_ok-head.ensures.text in
    let made = c.in_ok-verdicts.ensures.trees begun head (subst (g.T.Target.has begun c.add.new.self c.add.new.place) (sym (append-nil head)) first) in
    let are = subst (λ (vs : List Verdict). AreTreesOf (rest_tree file budget) (safe_picked file c.args.pick vs) made.0) (sym c.from_vec.ensures) made.1 in
    let text = (head ++ proofs_text made.0) ++ ended_line line.End in
    let certificate = rest_made file c.args.pick budget c.from_vec.result made.0 are text refl in
    record {
      text = text;
      has = c.in_ok-add-2.ensures.added begun (head ++ proofs_text made.0) (ended_line line.End) made.2 c.in_ok-end.ensures.text;
      certificate = certificate;
      accepted = rest_accepted file c.args.pick budget c.requires.words c.requires.narrow c.requires.limit c.from_vec.result text certificate;
    }

pub returns-in_err-verdicts-clause-stops : goal.returns-in_err-verdicts-clause-stops
returns-in_err-verdicts-clause-stops g c = λ begun has.
    let head = rest_head c.args.budget.lazy in
    err_any _ _ (c.in_err-verdicts.ensures.stops begun head (c.in_ok-add.ensures.added begun [] head has c.in_ok-head.ensures.text))

pub returns-in_err-end-clause-stops : goal.returns-in_err-end-clause-stops
returns-in_err-end-clause-stops g c = λ begun has.
    let head = rest_head c.args.budget.lazy in
    let first = c.in_ok-add.ensures.added begun [] head has c.in_ok-head.ensures.text in
    let made = c.in_ok-verdicts.ensures.trees begun head (subst (g.T.Target.has begun c.add.new.self c.add.new.place) (sym (append-nil head)) first) in
    err_any _ _ (g.met.T.Target.may_stop begun _ _ (head ++ proofs_text made.0) made.2)

pub returns-in_err-add-2-clause-stops : goal.returns-in_err-add-2-clause-stops
returns-in_err-add-2-clause-stops g c = λ begun has.
    let head = rest_head c.args.budget.lazy in
    let first = c.in_ok-add.ensures.added begun [] head has c.in_ok-head.ensures.text in
    let made = c.in_ok-verdicts.ensures.trees begun head (subst (g.T.Target.has begun c.add.new.self c.add.new.place) (sym (append-nil head)) first) in
    err_any _ _ (c.in_err-add-2.ensures.stops begun (head ++ proofs_text made.0) made.2)
