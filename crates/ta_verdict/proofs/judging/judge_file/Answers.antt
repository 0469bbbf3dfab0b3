use Rattle.ta_verdict.proofs.Common.{◌∙◌, [], Begun, None, subst, sym, CertificateOf, List, ℕ, safe_numbers, Certificate}
use Rattle.ta_verdict.proofs.judging.judge_file.Goals as goal

-- in memory it doesn't matter where it was begun
nowhere : Begun
nowhere = record { name = []; before = record { files = None; calls = []; faults = 0 } }

pub returns-clause-certificate : goal.returns-clause-certificate
returns-clause-certificate g c = λ wanted.
    let made = c.in_ok-verdicts.ensures.certificate nowhere c.new-draft.ensures.text in
    let same = c.in_ok-certificate.ensures.text (c.in_ok-verdicts.ensures.wanted ∙ c.new-draft.ensures.wanted ∙ wanted) made.text made.has in
    subst (λ (text : List ℕ). CertificateOf c.args.scoped.now.file c.args.budget c.in_ok-verdicts.verdicts text) (sym same) made.certificate

pub returns-clause-accepted : goal.returns-clause-accepted
returns-clause-accepted g c = λ l within wanted.
    let made = c.in_ok-verdicts.ensures.certificate nowhere c.new-draft.ensures.text in
    let same = c.in_ok-certificate.ensures.text (c.in_ok-verdicts.ensures.wanted ∙ c.new-draft.ensures.wanted ∙ wanted) made.text made.has in
    subst (λ (text : List ℕ). Certificate c.args.scoped.now.file l.line_bytes text (safe_numbers c.args.scoped.now.file c.in_ok-verdicts.verdicts))
    (sym same) (made.accepted l within)

pub returns-clause-unwanted : goal.returns-clause-unwanted
returns-clause-unwanted g c = λ none. c.in_ok-certificate.ensures.unwanted (c.in_ok-verdicts.ensures.wanted ∙ c.new-draft.ensures.wanted ∙ none)
