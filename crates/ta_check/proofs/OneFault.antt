-- Two first errors of a text are one
use Rattle.ta_check.proofs.Common.{◌≡◌, ℕ, List, [], ◌∷◌, Result, inl, inr, subst, CertFault, Line, end_of, start, steps, Subject, Standing, first_standing}
use Rattle.ta_check.proofs.Common.{FirstFaultAlong, IsFirstFaultFor, IsLastingFor}
use Rattle.ta_check.proofs.Following.{leads_once, not_both}
use Rattle.ta_check.proofs.Reasons.{KnowsBegun, known_next, at_fault_once}

-- lines and their end have one first error
fault_once : {A : Type 0} (subject : Subject) (s : Standing) (xs : List (ℕ × Line)) (end : Result A CertFault) (f g : CertFault) → KnowsBegun subject s
    → FirstFaultAlong subject s xs end f → FirstFaultAlong subject s xs end g → f ≡ g
fault_once subject s [] end f g known a b = cc
fault_once subject s (x ∷ xs) end f g known (inl a) (inl b) = at_fault_once subject s x.0 x.1 f g known a b
fault_once subject s (x ∷ xs) end f g known (inl a) (inr (next, leads, later)) = absurd (not_both subject s x.0 x.1 f next a leads)
fault_once subject s (x ∷ xs) end f g known (inr (next, leads, later)) (inl b) = absurd (not_both subject s x.0 x.1 g next b leads)
fault_once subject s (x ∷ xs) end f g known (inr (m, a, d)) (inr (n, b, e)) =
    fault_once subject n xs end f g (known_next subject s x.1 n known b)
    (subst (λ (t : Standing). FirstFaultAlong subject t xs end f) (leads_once subject s x.1 m n a b) d) e

-- two first errors are one
pub one_fault : (subject : Subject) (text : List ℕ) (f g : CertFault) → IsFirstFaultFor subject text f → IsFirstFaultFor subject text g → f ≡ g
one_fault subject text f g d e =
    let all = steps text (start subject.line_bytes) in
    fault_once subject first_standing all.0 (end_of all.1) f g (λ k none. absurd none) d e

-- so are two lasting ones
pub one_lasting : (subject : Subject) (text : List ℕ) (f g : CertFault) → IsLastingFor subject text f → IsLastingFor subject text g → f ≡ g
one_lasting subject text f g d e =
    let all = steps text (start subject.line_bytes) in
    fault_once subject first_standing all.0 all.1 f g (λ k none. absurd none) d e
