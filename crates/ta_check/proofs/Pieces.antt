-- a certificate that is judged piece by piece
use Rattle.ta_check.proofs.Common.{ℕ, ◌<◌, ◌≤◌, ◌≡◌, ◌≢◌, ◌⊎◌, List, [], ◌∷◌, ◌++◌, length, take, drop, reverse, Option, None, Some, Result, Ok, Err}
use Rattle.ta_check.proofs.Common.{Bool, true, false, refl, sym, ap, subst, ◌∙◌, inl, inr, arith, append_assoc, append-nil, length-append}
use Rattle.ta_check.proofs.Common.{take-append-drop, take-append_seam, reverse-reverse, false≢true, IsLine, Fails, GivesLine, Outcome, State, add_lines, failed}
use Rattle.ta_check.proofs.Common.{finish, first_line, on, start, state, steps, end_of, unnumbered, lines_numbered, Line, CertFault, Reader, Subject, Position}
use Rattle.ta_check.proofs.Common.{CertificateFor, StandBehind, IsAtFault, FirstFaultAlong, IsLastingFor, IsToldOf, NextTaken, StandSomewhere}
use Rattle.ta_check.proofs.Common.{TakenTo, Standing, first_standing, Leads, LeadThrough, IsPositionAt, LineAnswers, CheckerFinishAnswers}
use Rattle.ta_cert.specs.declared.fault.CertFault.TheVariants as fault
use Rattle.ta_cert.specs.declared.reader.Ended.{Ended}
use Rattle.ta_cert.proofs.Standing.{last_line, stands, whole_at}
use Rattle.ta_cert.proofs.Streaming.{faults_stay, first_parts, steps-append}
use Rattle.ta_check.proofs.Accepting.{certificate_of}

-- before the first piece
pub stands_first : (subject : Subject) (reader : Reader) (position : Position) → state reader ≡ start subject.line_bytes → reader.failed ≡ false
    → IsPositionAt subject position first_standing → StandBehind subject reader position []
stands_first subject reader position is going_on place = record {
  lines = [];
  at = first_standing;
  going_on = going_on;
  read = ap (λ (s : State). ([], Ok s)) (sym is);
  leads = refl;
  place = place;
}

-- one line more
leads_push : (subject : Subject) (s after next : Standing) (xs : List (ℕ × Line)) (x : ℕ × Line) → LeadThrough subject s (unnumbered xs) after
    → Leads subject after x.1 next → LeadThrough subject s (unnumbered (xs ++ (x ∷ []))) next
leads_push subject s after next [] x leads more = (next, subst (λ t. Leads subject t x.1 next) leads more, refl)
leads_push subject s after next (y ∷ xs) x (between, first, leads) more = (between, first, leads_push subject between after next xs x leads more)

-- the first error behind lines that may follow each other
behind_lines : {A : Type 0} (subject : Subject) (s after : Standing) (xs ys : List (ℕ × Line)) (end : Result A CertFault) (f : CertFault)
    → LeadThrough subject s (unnumbered xs) after → FirstFaultAlong subject after ys end f → FirstFaultAlong subject s (xs ++ ys) end f
behind_lines subject s after [] ys end f leads is = subst (λ (t : Standing). FirstFaultAlong subject t ys end f) leads is
behind_lines subject s after (x ∷ xs) ys end f (next, first, leads) is = inr (next, first, behind_lines subject next after xs ys end f leads is)

-- whether an error is want of memory
pub memory_or_not : (f : CertFault) → (f ≡ fault.Memory) ⊎ (f ≢ fault.Memory)
memory_or_not fault.Memory = inl refl
memory_or_not _ = inr (λ e. absurd cc)

-- what a text says with more bytes
more_read : (subject : Subject) (reader : Reader) (position : Position) (text bytes : List ℕ) → (h : StandBehind subject reader position text)
    → steps (text ++ bytes) (start subject.line_bytes) ≡ add_lines h.lines (steps bytes (state reader))
more_read subject reader position text bytes h = steps-append text bytes (start subject.line_bytes) ∙ ap (λ (o : Outcome). on o (steps bytes)) h.read

-- an error of the bytes behind a text
lasts_behind : (subject : Subject) (reader : Reader) (position : Position) (text bytes : List ℕ) (o : Outcome) (f : CertFault)
    → (h : StandBehind subject reader position text) → steps bytes (state reader) ≡ o → FirstFaultAlong subject h.at o.0 o.1 f
    → IsLastingFor subject (text ++ bytes) f
lasts_behind subject reader position text bytes o f h is first =
    subst (λ (p : Outcome). FirstFaultAlong subject first_standing p.0 p.1 f) (sym (more_read subject reader position text bytes h ∙ ap (add_lines h.lines) is))
    (behind_lines subject first_standing h.at h.lines o.0 o.1 f h.leads first)

-- the reader refuses
pub next_refused : (subject : Subject) (reader new : Reader) (position : Position) (bytes : List ℕ) (e : CertFault)
    → (reader.failed ≡ false → Fails (steps (first_line bytes) (state reader)) e) → (e ≡ fault.Failed → reader.failed ≡ true) → (text : List ℕ)
    → StandBehind subject reader position text → NextTaken subject text bytes new position (Err e)
next_refused subject reader new position bytes e fails was text h = record {
  fresh = λ is. false≢true (sym h.going_on ∙ was is);
  lasts = λ other.
      let first = fails h.going_on other in
      let rest = first_parts bytes in
      let all : steps bytes (state reader) ≡ failed e = ap (λ (xs : List ℕ). steps xs (state reader)) rest.1
      ∙ faults_stay (first_line bytes) rest.0 (state reader) e (ap (λ (o : Outcome). o.1) first) ∙ first in
      lasts_behind subject reader position text bytes (failed e) e h all refl;
}

-- the unfinished line goes on
pub next_none : (subject : Subject) (reader new : Reader) (position : Position) (bytes : List ℕ) → new.failed ≡ false
    → (reader.failed ≡ false → GivesLine bytes (steps (first_line bytes) (state reader)) new (Ok None)) → (text : List ℕ)
    → StandBehind subject reader position text → NextTaken subject text bytes new position (Ok None)
next_none subject reader new position bytes going_on gives text h =
    let kept = gives h.going_on in
    record {
      lines = h.lines;
      at = h.at;
      going_on = going_on;
      read = more_read subject reader position text bytes h
          ∙ ap (add_lines h.lines) (subst (λ (xs : List ℕ). steps xs (state reader) ≡ ([], Ok (state new))) kept.1 kept.0)
          ∙ ap (λ (xs : List (ℕ × Line)). (xs, Ok (state new))) (append-nil h.lines);
      leads = h.leads;
      place = h.place;
    }

-- bytes up to a line feed were read as a line
pub record LineRead (reader new : Reader) (bytes : List ℕ) (found : Ended) : Type 0 where
  pub read : steps (take found.taken bytes) (state reader) ≡ ((found.number, found.line) ∷ [], Ok (state new))
  pub some : 0 < found.taken
  pub within : found.taken ≤ length bytes

some_taken : (bytes : List ℕ) (s : State) (x : ℕ × Line) (t : State) → steps bytes s ≡ (x ∷ [], Ok t) → 0 < length bytes
some_taken [] s x t e = let none : [] ≡ (x ∷ []) = ap (λ (o : Outcome). o.0) e in absurd cc
some_taken (b ∷ bs) s x t e = omega arith

pub line_read : (reader new : Reader) (bytes : List ℕ) (found : Ended) → GivesLine bytes (steps (first_line bytes) (state reader)) new (Ok (Some found))
    → LineRead reader new bytes found
line_read reader new bytes found gives =
    let rest = first_parts bytes in
    let front : take found.taken bytes ≡ first_line bytes = ap (λ k. take k bytes) gives.1 ∙ ap (take (length (first_line bytes))) rest.1
    ∙ take-append_seam (first_line bytes) rest.0 in
    record {
      read = ap (λ (xs : List ℕ). steps xs (state reader)) front ∙ gives.0;
      some = omega (arith, gives.1, some_taken (first_line bytes) (state reader) (found.number, found.line) (state new) gives.0);
      within = omega (arith, gives.1, ap length rest.1, length-append (first_line bytes) rest.0);
    }

-- with the text
line_behind : (subject : Subject) (reader new : Reader) (position : Position) (text bytes : List ℕ) (found : Ended)
    → (h : StandBehind subject reader position text) → LineRead reader new bytes found
    → steps (text ++ take found.taken bytes) (start subject.line_bytes) ≡ (h.lines ++ (found.number, found.line) ∷ [], Ok (state new))
line_behind subject reader new position text bytes found h read = more_read subject reader position text (take found.taken bytes) h
    ∙ ap (add_lines h.lines) read.read

-- the line has its form
pub line_is : (subject : Subject) (reader new : Reader) (position : Position) (bytes : List ℕ) (found : Ended) (text : List ℕ)
    → StandBehind subject reader position text → (reader.failed ≡ false → GivesLine bytes (steps (first_line bytes) (state reader)) new (Ok (Some found)))
    → IsLine found.line
line_is subject reader new position bytes found text h gives =
    last_line subject.line_bytes (text ++ take found.taken bytes) h.lines (found.number, found.line) (state new)
    (line_behind subject reader new position text bytes found h (line_read reader new bytes found (gives h.going_on)))

-- a line that may follow
pub next_some : (subject : Subject) (reader new : Reader) (position after : Position) (bytes : List ℕ) (found : Ended) → new.failed ≡ false
    → (reader.failed ≡ false → GivesLine bytes (steps (first_line bytes) (state reader)) new (Ok (Some found)))
    → ((at : Standing) → IsPositionAt subject position at → LineAnswers subject at found.number found.line after (Ok tt)) → (text : List ℕ)
    → StandBehind subject reader position text → NextTaken subject text bytes new after (Ok (Some found.taken))
next_some subject reader new position after bytes found going_on gives takes text h =
    let read = line_read reader new bytes found (gives h.going_on) in
    let gone = takes h.at h.place in (
      read.some,
      read.within,
      record {
        lines = h.lines ++ (found.number, found.line) ∷ [];
        at = gone.0;
        going_on = going_on;
        read = line_behind subject reader new position text bytes found h read;
        leads = leads_push subject first_standing h.at gone.0 h.lines (found.number, found.line) h.leads gone.1;
        place = gone.2;
      },
    )

-- why a line can't follow
taken_fault : (subject : Subject) (at : Standing) (number : ℕ) (l : Line) (moved : Position) (e : CertFault) → LineAnswers subject at number l moved (Err e)
    → (e ≡ fault.Memory) ⊎ IsAtFault subject at number l e
taken_fault subject at number l moved fault.Memory taken = inl refl
taken_fault subject at number l moved _ taken = inr taken

pub next_fails : (subject : Subject) (reader new : Reader) (position after : Position) (bytes : List ℕ) (found : Ended) (e : CertFault)
    → (reader.failed ≡ false → GivesLine bytes (steps (first_line bytes) (state reader)) new (Ok (Some found)))
    → ((at : Standing) → IsPositionAt subject position at → LineAnswers subject at found.number found.line after (Err e)) → (text : List ℕ)
    → StandBehind subject reader position text → NextTaken subject text bytes new after (Err e)
next_fails subject reader new position after bytes found e gives takes text h =
    let read = line_read reader new bytes found (gives h.going_on) in
    let front = take found.taken bytes in
    let behind = drop found.taken bytes in
    let later = steps behind (state new) in
    let all : steps bytes (state reader) ≡ add_lines ((found.number, found.line) ∷ []) later = ap (λ (xs : List ℕ). steps xs (state reader))
    (sym (take-append-drop found.taken bytes)) ∙ steps-append front behind (state reader) ∙ ap (λ (o : Outcome). on o (steps behind)) read.read in
    let answers = takes h.at h.place in
    record {
      fresh = λ is. subst (λ (f : CertFault). LineAnswers subject h.at found.number found.line after (Err f)) is answers;
      lasts = λ other. elim (taken_fault subject h.at found.number found.line after e answers) [
        | inl memory ↦ absurd (other memory)
        | inr at_fault ↦ lasts_behind subject reader position text bytes (add_lines ((found.number, found.line) ∷ []) later) e h all (inl at_fault)
      ];
    }

-- the front of a piece was taken, and wherever one stood before, one stands behind it, however many bytes a line may have
pub record FrontTaken (subject : ℕ → Subject) (reader : Reader) (position : Position) (piece rest : List ℕ) (new : Reader) (moved : Position) : Type 0 where
  pub front : List ℕ
  pub split : piece ≡ front ++ rest
  pub stands : (limit : ℕ) (text : List ℕ) → StandBehind (subject limit) reader position text → StandBehind (subject limit) new moved (text ++ front)

-- the text with the piece
whole_is : (subject : ℕ → Subject) (reader : Reader) (position : Position) (piece rest : List ℕ) (new : Reader) (moved : Position)
    (so : FrontTaken subject reader position piece rest new moved) (text : List ℕ) → (text ++ so.front) ++ rest ≡ text ++ piece
whole_is subject reader position piece rest new moved so text = append_assoc text so.front rest ∙ ap (λ xs. text ++ xs) (sym so.split)

pub somewhere : (subject : ℕ → Subject) (reader new : Reader) (position moved : Position) (piece rest : List ℕ)
    → FrontTaken subject reader position piece rest new moved → StandSomewhere subject reader position → StandSomewhere subject new moved
somewhere subject reader new position moved piece rest so (limit, text, h) = (limit, text ++ so.front, so.stands limit text h)

-- what is answered to the bytes that are left, wherever one stands
abbrev pub Goes : (ℕ → Subject) → Reader → Position → List ℕ → Reader → Position → Result (Option ℕ) CertFault → Type 0
Goes subject reader position bytes new moved answer =
    (limit : ℕ) (text : List ℕ) → StandBehind (subject limit) reader position text → NextTaken (subject limit) text bytes new moved answer

pub goes_on : (subject : ℕ → Subject) (reader new last : Reader) (position moved after : Position) (piece rest behind : List ℕ) (taken : ℕ)
    → FrontTaken subject reader position piece rest new moved → Goes subject new moved rest last after (Ok (Some taken)) → behind ≡ drop taken rest
    → FrontTaken subject reader position piece behind last after
goes_on subject reader new last position moved after piece rest behind taken so goes same = record {
  front = so.front ++ take taken rest;
  split = so.split ∙ ap (λ xs. so.front ++ xs) (sym (take-append-drop taken rest) ∙ ap (λ xs. take taken rest ++ xs) (sym same))
      ∙ sym (append_assoc so.front (take taken rest) behind);
  stands = λ limit text h. subst (StandBehind (subject limit) last after) (append_assoc text so.front (take taken rest))
      (goes limit (text ++ so.front) (so.stands limit text h)).2;
}

pub goes_within : (subject : ℕ → Subject) (reader new last : Reader) (position moved after : Position) (piece rest : List ℕ) (taken : ℕ)
    → FrontTaken subject reader position piece rest new moved → StandSomewhere subject reader position
    → Goes subject new moved rest last after (Ok (Some taken)) → (0 < taken) × (taken ≤ length rest)
goes_within subject reader new last position moved after piece rest taken so (limit, text, h) goes =
    let gone = goes limit (text ++ so.front) (so.stands limit text h) in
    (gone.0, gone.1)

-- an error of the bytes that are left
pub goes_wrong : (subject : ℕ → Subject) (reader new last : Reader) (position moved after : Position) (piece rest : List ℕ) (e : CertFault)
    → FrontTaken subject reader position piece rest new moved → Goes subject new moved rest last after (Err e) → (limit : ℕ) (text : List ℕ)
    → StandBehind (subject limit) reader position text → TakenTo (subject limit) (text ++ piece) last after (Err e)
goes_wrong subject reader new last position moved after piece rest e so goes limit text h =
    subst (λ t. IsToldOf (subject limit) t e) (whole_is subject reader position piece rest new moved so text)
    (goes limit (text ++ so.front) (so.stands limit text h))

-- an early end
finish_fault : (s : State) (e : CertFault) → Err e ≡ finish s → fault.Truncated s.number ≡ e
finish_fault s e is = by_end s.ended is
  where
    by_end : (t : Bool) → Err e ≡ finish (record { line_bytes = s.line_bytes; line = s.line; number = s.number; begun = s.begun; ended = t })
        → fault.Truncated s.number ≡ e
    by_end true is = absurd cc
    by_end false is = cc

pub end_refused : (subject : Subject) (reader : Reader) (position : Position) (text : List ℕ) (e : CertFault) → StandBehind subject reader position text
    → (reader.failed ≡ false → Err e ≡ finish (state reader)) → CheckerFinishAnswers subject text (Err e)
end_refused subject reader position text e h ends =
    let is = ends h.going_on in
    let same = finish_fault (state reader) e is in
    let number = fault.Truncated reader.number in
    let first : FirstFaultAlong {A = Unit {0}} subject first_standing h.lines (finish (state reader)) number =
    subst (λ (xs : List (ℕ × Line)). FirstFaultAlong subject first_standing xs (finish (state reader)) number) (append-nil h.lines)
    (behind_lines subject first_standing h.at h.lines [] (finish (state reader)) number h.leads (sym is ∙ ap Err (sym same))) in
    subst (λ (f : CertFault). CheckerFinishAnswers subject text (Err f)) same
    (subst (λ (o : Outcome). FirstFaultAlong subject first_standing o.0 (end_of o.1) number) (sym h.read) first)

-- a complete end
pub end_accepts : (subject : Subject) (reader : Reader) (position : Position) (text : List ℕ) → StandBehind subject reader position text
    → (reader.failed ≡ false → Ok tt ≡ finish (state reader)) → CertificateFor subject text position.proved.items
end_accepts subject reader position text h ends =
    let found = stands subject.line_bytes text h.lines (state reader) h.read in
    let same : unnumbered h.lines ≡ found.0 = ap unnumbered found.2 ∙ lines_numbered 0 found.0 in
    let numbers : reverse h.at.begun ≡ position.proved.items = ap reverse h.place.begun ∙ reverse-reverse position.proved.items in
    subst (CertificateFor subject text) numbers
    (certificate_of subject text found.0 h.at (whole_at subject.line_bytes (state reader) text found.0 found.1 (sym (ends h.going_on)))
    (subst (λ (ls : List Line). LeadThrough subject first_standing ls h.at) same h.leads))
