use Rattle.ta_verdict.proofs.Common.{QuietRestCertificate}
use Rattle.ta_verdict.proofs.rest.Common.{◌∙◌, [], Begun, None, subst, sym, List, ℕ, RestCertificateOf, resting, safe_among}
use Rattle.ta_verdict.proofs.rest.judging.judge_rest.Goals as goal

-- in memory it doesn't matter where it was begun
nowhere : Begun
nowhere = record { name = []; before = record { files = None; calls = []; faults = 0 } }

pub returns-clause-certificate : goal.returns-clause-certificate
returns-clause-certificate g c = λ wanted.
    let made = c.in_ok-verdicts.ensures.certificate nowhere c.new-draft.ensures.text in
    let same = c.in_ok-certificate.ensures.text (c.in_ok-verdicts.ensures.wanted ∙ c.new-draft.ensures.wanted ∙ wanted) made.text made.has in
    subst (λ (text : List ℕ). RestCertificateOf c.args.rest.now.ending.file c.args.pick (resting c.args.budget c.args.silent.now) c.in_ok-verdicts.verdicts
    text) (sym same) made.certificate

pub returns-clause-accepted : goal.returns-clause-accepted
returns-clause-accepted g c = λ l within wanted.
    let made = c.in_ok-verdicts.ensures.certificate nowhere c.new-draft.ensures.text in
    let same = c.in_ok-certificate.ensures.text (c.in_ok-verdicts.ensures.wanted ∙ c.new-draft.ensures.wanted ∙ wanted) made.text made.has in
    subst (λ (text : List ℕ). QuietRestCertificate c.args.rest.now.ending.file c.args.silent.now l.line_bytes text
    (safe_among c.args.rest.now.ending.file c.args.pick c.in_ok-verdicts.verdicts)) (sym same) (made.accepted l within)

pub returns-clause-unwanted : goal.returns-clause-unwanted
returns-clause-unwanted g c = λ none. c.in_ok-certificate.ensures.unwanted (c.in_ok-verdicts.ensures.wanted ∙ c.new-draft.ensures.wanted ∙ none)
