-- A text with a first error is no certificate
use Rattle.ta_check.proofs.Common.{◌≡◌, ℕ, List, [], ◌∷◌, Result, Ok, inl, inr, sym, subst, CertFault, Line, end_of, start, steps, unnumbered}
use Rattle.ta_check.proofs.Common.{numbered_lines, lines_numbered, Subject, Standing, first_standing, LeadThrough, FirstFaultAlong, IsFirstFaultFor}
use Rattle.ta_check.proofs.Common.{CertificateFor}
use Rattle.ta_cert.proofs.Standing.{finished_parts}
use Rattle.ta_check.proofs.Accepting.{lines_of}
use Rattle.ta_check.proofs.Following.{leads_once, not_both}

-- lines that may follow each other have no error where their end has none
pub none_along : {A : Type 0} (subject : Subject) (s after : Standing) (xs : List (ℕ × Line)) (end : Result A CertFault) (a : A) (f : CertFault)
    → LeadThrough subject s (unnumbered xs) after → end ≡ Ok a → FirstFaultAlong subject s xs end f → ⊥
none_along subject s after [] end a f lead ends is = cc
none_along subject s after (x ∷ xs) end a f (next, leads, rest) ends (inl at) = not_both subject s x.0 x.1 f next at leads
none_along subject s after (x ∷ xs) end a f (next, leads, rest) ends (inr (other, also, later)) =
    none_along subject next after xs end a f rest ends
    (subst (λ (t : Standing). FirstFaultAlong subject t xs end f) (leads_once subject s x.1 other next also leads) later)

-- a text with a first error is no certificate
pub no_certificate : (subject : Subject) (text : List ℕ) (f : CertFault) → IsFirstFaultFor subject text f → (numbers : List ℕ)
    → ¬ CertificateFor subject text numbers
no_certificate subject text f first numbers certificate =
    let lines = lines_of subject text numbers certificate in
    let all = steps text (start subject.line_bytes) in
    let read = finished_parts all (numbered_lines 0 lines.0) lines.1 in
    let end = end_of all.1 in
    none_along subject first_standing lines.2 (numbered_lines 0 lines.0) end tt f
    (subst (λ (ls : List Line). LeadThrough subject first_standing ls lines.2) (sym (lines_numbered 0 lines.0)) lines.3)
    read.1
    (subst (λ (xs : List (ℕ × Line)). FirstFaultAlong subject first_standing xs end f) read.0 first)
