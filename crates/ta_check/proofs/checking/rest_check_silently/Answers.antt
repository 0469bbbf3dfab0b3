use Rattle.ta_check.proofs.Common.{List, ℕ, Ok, Err, Result, IfOk, IfErr, subst, File, IsErrOrMemory, CertFault, EndingsOf, AllClaimsHold, AllQuietRestSafe}
use Rattle.ta_check.proofs.Common.{CertificateFor, IsFirstFaultFor, Subject, Accepted, ◌≢◌}
use Rattle.ta_cert.specs.declared.fault.CertFault.TheVariants as fault
use Rattle.ta_check.proofs.OwnPatterns.{all_own}
use Rattle.ta_check.proofs.checking.rest_check_silently.Goals as goal

pub returns-clause-refused : goal.returns-clause-refused
returns-clause-refused c = subst
    (λ (s : Subject). IfErr c.judge_whole.result (λ f. f ≢ fault.Memory → (numbers : List ℕ) → ¬ CertificateFor s c.args.text.now numbers))
    c.resting_silently.ensures.subject c.judge_whole.ensures.refused

pub returns-clause-exact : goal.returns-clause-exact
returns-clause-exact c = subst (λ (s : Subject). (f : CertFault) → IsFirstFaultFor s c.args.text.now f → IsErrOrMemory c.judge_whole.result f)
    c.resting_silently.ensures.subject c.judge_whole.ensures.exact

pub returns-clause-own : goal.returns-clause-own
returns-clause-own c = own c.judge_whole.result
    (subst (λ (s : Subject). IfOk c.judge_whole.result (λ accepted. AllClaimsHold s accepted.patterns)) c.resting_silently.ensures.subject
    c.judge_whole.ensures.holds)
  where
    own : (answer : Result Accepted CertFault) → IfOk answer (λ accepted. AllQuietRestSafe c.args.rest.now.ending.file c.args.silent.now accepted.patterns)
        → IfOk answer (λ accepted. (file : File) → EndingsOf file c.args.rest.now.ending.file c.args.rest.now.added
        → AllQuietRestSafe file c.args.silent.now accepted.patterns)
    own (Ok accepted) safe = λ file of. all_own c.args.silent.now file c.args.rest.now.ending.file c.args.rest.now.added accepted.patterns of safe
    own (Err f) safe = tt
