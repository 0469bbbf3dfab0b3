use Rattle.ta_check.proofs.Common.{◌∙◌, ap, sym, subst, Ok, err_is, Claim, CertificateFor, subject_of, claiming_with}
use Rattle.ta_scope.proofs.Judging.{loops_pure}
use Rattle.ta_check.proofs.Accepting.{certificate_unsolved, claims_hold}
use Rattle.ta_check.proofs.Answering.{exact_end, stands_somewhere}
use Rattle.ta_check.proofs.Pieces.{end_accepts, end_refused}
use Rattle.ta_check.proofs.checker.Checker.finish.Goals as goal

pub returns-in_err-finish-clause-answer : goal.returns-in_err-finish-clause-answer
returns-in_err-finish-clause-answer c =
    let s = c.args.self in
    rw (err_is c.from_residual.result _ c.from_residual.ensures.1)
    (λ text stands. end_refused (subject_of s) s.reader s.position text c.in_err-finish.field-0.0 stands.stand
    (rw c.into_parts-reader.ensures.reader at c.in_err-finish.ensures.answer))

pub returns-in_err-finish-clause-exact : goal.returns-in_err-finish-clause-exact
returns-in_err-finish-clause-exact c = λ text stands. exact_end (subject_of c.args.self) text c.from_residual.result
    (returns-in_err-finish-clause-answer c text stands)

pub returns-clause-answer : goal.returns-clause-answer
returns-clause-answer c = λ text stands.
    let s = c.args.self in
    let proved = c.from_vec.ensures ∙ ap (λ v. v.items) c.into_parts-reader.ensures.proved in
    subst (CertificateFor (subject_of s) text) (sym proved)
    (end_accepts (subject_of s) s.reader s.position text stands.stand (rw c.into_parts-reader.ensures.reader at c.in_ok-finish.ensures.answer))

pub returns-clause-exact : goal.returns-clause-exact
returns-clause-exact c = λ text stands. exact_end (subject_of c.args.self) text (Ok (record { patterns = c.from_vec.result }))
    (returns-clause-answer c text stands)

pub returns-clause-holds : goal.returns-clause-holds
returns-clause-holds c =
    let s = c.args.self in
    let some = stands_somewhere s c.if-failed.false c.requires in
    claims_hold (subject_of s) some.0 c.from_vec.result some.1.may (loops_pure s.scoped.now.file.automaton s.scoped.now.in_scope)
    (returns-clause-answer c some.0 some.1)

pub returns-clause-unsolved : goal.returns-clause-unsolved
returns-clause-unsolved c = λ safe.
    let s = c.args.self in
    let file = s.scoped.now.file in
    let some = stands_somewhere s c.if-failed.false c.requires in
    let certificate = subst (λ (claim : Claim). CertificateFor (claiming_with claim file s.silent.now s.line_bytes) some.0 c.from_vec.result) safe
    (returns-clause-answer c some.0 some.1) in
    certificate_unsolved file s.silent.now s.line_bytes some.0 c.from_vec.result (loops_pure file.automaton s.scoped.now.in_scope) s.scoped.now.in_scope
    certificate
