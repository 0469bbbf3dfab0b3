use Rattle.ta_check.proofs.Common.{List, ℕ, IfErr, IfOk, subst, IsErrOrMemory, CertFault, AllClaimsHold, CertificateFor, IsFirstFaultFor, Subject, ◌≢◌}
use Rattle.ta_cert.specs.declared.fault.CertFault.TheVariants as fault
use Rattle.ta_check.proofs.checking.check.Goals as goal

pub returns-clause-refused : goal.returns-clause-refused
returns-clause-refused c = subst
    (λ (s : Subject). IfErr c.judge_whole.result (λ f. f ≢ fault.Memory → (numbers : List ℕ) → ¬ CertificateFor s c.args.text.now numbers))
    c.new.ensures.subject c.judge_whole.ensures.refused

pub returns-clause-exact : goal.returns-clause-exact
returns-clause-exact c = subst (λ (s : Subject). (f : CertFault) → IsFirstFaultFor s c.args.text.now f → IsErrOrMemory c.judge_whole.result f)
    c.new.ensures.subject c.judge_whole.ensures.exact

pub returns-clause-safe : goal.returns-clause-safe
returns-clause-safe c = subst (λ (s : Subject). IfOk c.judge_whole.result (λ accepted. AllClaimsHold s accepted.patterns)) c.new.ensures.subject
    c.judge_whole.ensures.holds
