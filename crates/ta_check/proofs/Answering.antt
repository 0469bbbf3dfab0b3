-- what the judge's answer excludes and proves
use Rattle.ta_check.proofs.Common.{ℕ, ◌≡◌, ◌≢◌, ◌⊎◌, inl, inr, false, List, [], ◌++◌, Result, Ok, Err, IfOk, IfErr, IsErrOf, is_err, refl, sym, ap, ◌∙◌, subst}
use Rattle.ta_check.proofs.Common.{false≢true, CertFault, IsErrOrMemory, Outcome, state, Reader, Subject, Accepted, CertificateFor, MayClaimAll, Position}
use Rattle.ta_check.proofs.Common.{StandBehind, CheckerStandsFor, IsSoundChecker, CheckerFeedAnswers, IsExactFeed, CheckerFinishAnswers, IsExactCheck}
use Rattle.ta_check.proofs.Common.{subject_of, TakenTo, FirstFaultAlong, IsFirstFaultFor, IsLastingFor, first_standing}
use Rattle.ta_cert.specs.declared.fault.CertFault.TheVariants as fault
use Rattle.ta_check.specs.declared.checker.Checker.{Checker}
use Rattle.ta_check.proofs.Lasting.{first_of_lasting}
use Rattle.ta_check.proofs.OneFault.{one_fault, one_lasting}
use Rattle.ta_check.proofs.Refusing.{no_certificate, none_along}
use Rattle.ta_check.proofs.Pieces.{memory_or_not}

abbrev Accepts : Subject → List ℕ → Result Accepted CertFault → Type 0
Accepts subject text answer = IfOk answer (λ accepted. CertificateFor subject text accepted.patterns)

abbrev Faults : Subject → List ℕ → Result Accepted CertFault → Type 0
Faults subject text answer = IfErr answer (λ f. f ≢ fault.Memory → IsFirstFaultFor subject text f)

-- a text with a first error is no certificate
pub refused_answer : (subject : Subject) (text : List ℕ) (answer : Result Accepted CertFault) → Faults subject text answer
    → IfErr answer (λ f. f ≢ fault.Memory → (numbers : List ℕ) → ¬ CertificateFor subject text numbers)
refused_answer subject text (Ok accepted) h = tt
refused_answer subject text (Err f) h = λ other. no_certificate subject text f (h other)

-- the first error is the answer, unless memory ran out
pub exact_answer : (subject : Subject) (text : List ℕ) (answer : Result Accepted CertFault) → Accepts subject text answer → Faults subject text answer
    → (f : CertFault) → IsFirstFaultFor subject text f → IsErrOrMemory answer f
exact_answer subject text (Ok accepted) a h f first = absurd (no_certificate subject text f first accepted.patterns a)
exact_answer subject text (Err other) a h f first = elim (memory_or_not other) [
  | inl memory ↦ inr (ap Err memory)
  | inr not ↦ inl (ap Err (one_fault subject text other f (h not) first))
]

-- a text that is read so far has no lasting error
none_lasting : (subject : Subject) (reader : Reader) (position : Position) (text : List ℕ) (f : CertFault) → StandBehind subject reader position text
    → IsLastingFor subject text f → ⊥
none_lasting subject reader position text f h lasting =
    none_along subject first_standing h.at h.lines (Ok (state reader)) (state reader) f h.leads refl
    (subst (λ (o : Outcome). FirstFaultAlong subject first_standing o.0 o.1 f) h.read lasting)

-- the answer to a piece is the one that is so of the text
pub exact_feed : (subject : Subject) (reader : Reader) (position : Position) (text : List ℕ) (answer : Result (Unit {0}) CertFault)
    → TakenTo subject text reader position answer → IsExactFeed subject text answer
exact_feed subject reader position text (Ok u) taken f lasting = absurd (none_lasting subject reader position text f taken lasting)
exact_feed subject reader position text (Err e) taken f lasting = elim (memory_or_not e) [
  | inl memory ↦ inr (ap Err memory)
  | inr other ↦ inl (ap Err (one_lasting subject text e f (taken.lasts other) lasting))
]

-- a call on a checker that was not refused before doesn't say that it was
pub never_failed : (subject : Subject) (reader : Reader) (position : Position) (text : List ℕ) (answer : Result (Unit {0}) CertFault)
    → TakenTo subject text reader position answer → IsErrOf answer fault.Failed → ⊥
never_failed subject reader position text (Ok u) taken is = cc
never_failed subject reader position text (Err e) taken is = let same : e ≡ fault.Failed = cc in taken.fresh same

-- the answer at the end is the one that is so of the text
pub exact_end : (subject : Subject) (text : List ℕ) (answer : Result Accepted CertFault) → CheckerFinishAnswers subject text answer
    → IsExactCheck subject text answer
exact_end subject text (Ok accepted) is = record {
  certificate = λ numbers c. refl;
  early = λ n first. absurd (no_certificate subject text (fault.Truncated n) first accepted.patterns is);
}
exact_end subject text (Err (fault.Truncated k)) is = record {
  certificate = λ numbers c. absurd (no_certificate subject text (fault.Truncated k) is numbers c);
  early = λ n first. ap Err (one_fault subject text (fault.Truncated k) (fault.Truncated n) is first);
}
exact_end subject text (Err _) is = absurd is

-- what a finished checker accepted is a certificate
pub finished_accepts : (subject : Subject) (text : List ℕ) (answer : Result Accepted CertFault) → CheckerFinishAnswers subject text answer
    → Accepts subject text answer
finished_accepts subject text (Ok accepted) f = f
finished_accepts subject text (Err e) f = tt

-- a checker that was not refused stands for some text
pub stands_somewhere : (s : Checker) → s.failed ≡ false → IsSoundChecker s → (text : List ℕ) × CheckerStandsFor s text
stands_somewhere s going_on (inl failed) = absurd (false≢true (sym going_on ∙ failed))
stands_somewhere s going_on (inr stands) = stands

-- what a checker answers to a piece, by its fields afterwards
pub fed : (new : Checker) (text piece : List ℕ) (answer : Result (Unit {0}) CertFault) → MayClaimAll (subject_of new) → new.failed ≡ is_err answer
    → TakenTo (subject_of new) (text ++ piece) new.reader new.position answer → CheckerFeedAnswers text piece new answer
fed new text piece (Ok u) may failed taken = record { may = may; going_on = failed; stand = taken }
fed new text piece (Err fault.Memory) may failed taken = tt
fed new text piece (Err _) may failed taken = taken.lasts (λ e. absurd cc)

-- a checker is sound after each piece
pub still_sound : (new : Checker) (text : List ℕ) (answer : Result (Unit {0}) CertFault) → MayClaimAll (subject_of new) → new.failed ≡ is_err answer
    → TakenTo (subject_of new) text new.reader new.position answer → IsSoundChecker new
still_sound new text (Ok u) may failed taken = inr (text, record { may = may; going_on = failed; stand = taken })
still_sound new text (Err e) may failed taken = inl failed

-- what a finished checker refused is a first error
pub finished_faults : (subject : Subject) (text : List ℕ) (answer : Result Accepted CertFault) → CheckerFinishAnswers subject text answer
    → Faults subject text answer
finished_faults subject text (Ok accepted) f = tt
finished_faults subject text (Err (fault.Truncated n)) f = λ other. f
finished_faults subject text (Err _) f = absurd f

-- what a checker refused of the whole text is its first error
pub fed_faults : (new : Checker) (subject : Subject) (text : List ℕ) (e : CertFault) → subject_of new ≡ subject → CheckerFeedAnswers [] text new (Err e)
    → e ≢ fault.Memory → IsFirstFaultFor subject text e
fed_faults new subject text e same answer other = elim (told e answer) [
  | inl memory ↦ absurd (other memory)
  | inr lasting ↦ subst (λ f. IsFirstFaultFor f text e) same (first_of_lasting (subject_of new) text e lasting)
]
  where
    told : (e : CertFault) → CheckerFeedAnswers [] text new (Err e) → (e ≡ fault.Memory) ⊎ IsLastingFor (subject_of new) text e
    told fault.Memory h = inl refl
    told _ h = inr h
