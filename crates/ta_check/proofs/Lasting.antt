-- An error that lasts
use Rattle.ta_check.proofs.Common.{ℕ, List, [], ◌∷◌, ◌++◌, Result, Ok, Err, IsErrOf, inl, inr, sym, ap, subst, CertFault, Line, State, Outcome, on, end_of}
use Rattle.ta_check.proofs.Common.{start, steps, Subject, Standing, first_standing, CertificateFor, FirstFaultAlong, IsFirstFaultFor, IsLastingFor}
use Rattle.ta_check.proofs.Common.{LastingFaultsLast}
use Rattle.ta_cert.proofs.Streaming.{steps-append}
use Rattle.ta_check.proofs.Refusing.{no_certificate}

-- the same error at another end
other_end : {A B : Type 0} (subject : Subject) (s : Standing) (xs : List (ℕ × Line)) (end : Result A CertFault) (last : Result B CertFault) (f : CertFault)
    → (IsErrOf end f → IsErrOf last f) → FirstFaultAlong subject s xs end f → FirstFaultAlong subject s xs last f
other_end subject s [] end last f same is = same is
other_end subject s (x ∷ xs) end last f same (inl at) = inl at
other_end subject s (x ∷ xs) end last f same (inr (next, leads, later)) = inr (next, leads, other_end subject next xs end last f same later)

-- an error of lines is the same before more of them
more_lines : {A : Type 0} (subject : Subject) (s : Standing) (xs ys : List (ℕ × Line)) (t : State) (end : Result A CertFault) (f : CertFault)
    → FirstFaultAlong {A = State} subject s xs (Ok t) f → FirstFaultAlong subject s (xs ++ ys) end f
more_lines subject s [] ys t end f is = absurd cc
more_lines subject s (x ∷ xs) ys t end f (inl at) = inl at
more_lines subject s (x ∷ xs) ys t end f (inr (next, leads, later)) = inr (next, leads, more_lines subject next xs ys t end f later)

on_lasts : (subject : Subject) (s : Standing) (o : Outcome) (g : State → Outcome) (f : CertFault) → FirstFaultAlong subject s o.0 o.1 f
    → FirstFaultAlong subject s (on o g).0 (on o g).1 f
on_lasts subject s (xs, Ok t) g f is = more_lines subject s xs (g t).0 t (g t).1 f is
on_lasts subject s (xs, Err e) g f is = is

-- a longer text keeps it
pub lasting_more : (subject : Subject) (text more : List ℕ) (f : CertFault) → IsLastingFor subject text f → IsLastingFor subject (text ++ more) f
lasting_more subject text more f h =
    let before = start subject.line_bytes in
    subst (λ (o : Outcome). FirstFaultAlong subject first_standing o.0 o.1 f) (sym (steps-append text more before))
    (on_lasts subject first_standing (steps text before) (steps more) f h)

-- it is a first one
pub first_of_lasting : (subject : Subject) (text : List ℕ) (f : CertFault) → IsLastingFor subject text f → IsFirstFaultFor subject text f
first_of_lasting subject text f h =
    let all = steps text (start subject.line_bytes) in
    other_end subject first_standing all.0 all.1 (end_of all.1) f (λ is. ap end_of is) h

pub lasting_faults_last : LastingFaultsLast
lasting_faults_last subject text more f h = first_of_lasting subject (text ++ more) f (lasting_more subject text more f h)

-- no text that goes on behind a lasting error is a certificate
pub no_longer_certificate : (subject : Subject) (text : List ℕ) (f : CertFault) → IsLastingFor subject text f → (more numbers : List ℕ)
    → ¬ CertificateFor subject (text ++ more) numbers
no_longer_certificate subject text f h more = no_certificate subject (text ++ more) f (lasting_faults_last subject text more f h)
