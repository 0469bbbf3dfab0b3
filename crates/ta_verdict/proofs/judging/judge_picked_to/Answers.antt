use Rattle.ta_verdict.proofs.Common.{◌++◌, [], List, append-nil, refl, subst, sym, proofs_text, Verdict, loops_pure, AreTrees, safe_picked, head_of, ended_line}
use Rattle.ta_verdict.proofs.JudgedSoFar.{err_any}
use Rattle.ta_verdict.proofs.CertificatesMade.{certificate_accepted, certificate_made}
use Rattle.ta_cert.specs.declared.line.Line.TheVariants as line
use Rattle.ta_verdict.proofs.judging.judge_picked_to.Goals as goal

pub returns-clause-certificate : goal.returns-clause-certificate
returns-clause-certificate g c = λ begun has.
    let s = c.args.scoped.now in
    let file = s.file in
    let trees = c.in_ok-trees.trees in
    let head = head_of trees in
    let first = c.in_ok-add.ensures.added begun [] head has c.in_ok-head.ensures.text in
    let made = c.in_ok-verdicts.ensures.trees begun head (subst (g.T.Target.has begun c.add.new.self c.add.new.place) (sym (append-nil head)) first) in
    let are = subst (λ (vs : List Verdict). AreTrees file c.args.budget (safe_picked file c.args.pick vs) made.0) (sym c.from_vec.ensures) made.1 in
    let text = (head ++ proofs_text made.0) ++ ended_line line.End in
    let certificate = certificate_made file c.args.pick c.args.budget c.from_vec.result trees c.in_ok-trees.ensures.known c.in_ok-trees.ensures.lazy made.0 are
    text refl in
    record {
      text = text;
      has = c.in_ok-add-2.ensures.added begun (head ++ proofs_text made.0) (ended_line line.End) made.2 c.in_ok-end.ensures.text;
      certificate = certificate;
      accepted = certificate_accepted file c.args.pick c.args.budget c.requires.narrow
          (loops_pure file.automaton s.in_scope) c.requires.limit c.from_vec.result text certificate;
    }

pub returns-in_err-verdicts-clause-stops : goal.returns-in_err-verdicts-clause-stops
returns-in_err-verdicts-clause-stops g c = λ begun has.
    let head = head_of c.in_ok-trees.trees in
    err_any _ _ (c.in_err-verdicts.ensures.stops begun head (c.in_ok-add.ensures.added begun [] head has c.in_ok-head.ensures.text))

pub returns-in_err-end-clause-stops : goal.returns-in_err-end-clause-stops
returns-in_err-end-clause-stops g c = λ begun has.
    let head = head_of c.in_ok-trees.trees in
    let first = c.in_ok-add.ensures.added begun [] head has c.in_ok-head.ensures.text in
    let made = c.in_ok-verdicts.ensures.trees begun head (subst (g.T.Target.has begun c.add.new.self c.add.new.place) (sym (append-nil head)) first) in
    err_any _ _ (g.met.T.Target.may_stop begun _ _ (head ++ proofs_text made.0) made.2)

pub returns-in_err-add-2-clause-stops : goal.returns-in_err-add-2-clause-stops
returns-in_err-add-2-clause-stops g c = λ begun has.
    let head = head_of c.in_ok-trees.trees in
    let first = c.in_ok-add.ensures.added begun [] head has c.in_ok-head.ensures.text in
    let made = c.in_ok-verdicts.ensures.trees begun head (subst (g.T.Target.has begun c.add.new.self c.add.new.place) (sym (append-nil head)) first) in
    err_any _ _ (c.in_err-add-2.ensures.stops begun (head ++ proofs_text made.0) made.2)
