-- a certificate that is judged while it is read
use Rattle.ta_program.proofs.Common.{◌≡◌, ◌∙◌, ◌+◌, ◌-◌, ◌<◌, ◌≤◌, ◌⊎◌, ℕ, Bool, true, false, List, [], ◌++◌, length, take, drop, min, Option, None, Some}
use Rattle.ta_program.proofs.Common.{Result, Ok, Err, refl, sym, ap, subst, inl, inr, arith, append_assoc, length-append, ltb-true, take-append-add, append-nil}
use Rattle.ta_program.proofs.Common.{length-drop, length-take-le, take-append-drop, Subject, CertFault, Accepted, Checker, AllClaimsHold, CheckerFeedAnswers}
use Rattle.ta_program.proofs.Common.{CheckerFinishAnswers, IsExactCheck, IsExactFeed, CheckerStandsFor, subject_of, IsFirstFaultFor, IsLastingFor}
use Rattle.ta_program.proofs.Common.{no_longer_certificate, Call, Grew, PieceBy, ReadsFirst, Spells, Told, Refusal, Refused, ReadFailed, PutFailed, Memory}
use Rattle.ta_program.proofs.Common.{longer_than, IsReading, ReadCause, SaysOfFile, UnreadBy, Begins, seen, where_told, Stage, CERTIFICATE, IsAllowed, Breaks}
use Rattle.ta_program.proofs.Common.{JudgedTo, JudgedWhole, PassesLimit, PieceFed, RefusedBy, Turn, IsUnproved, certificate_kind, Event, reads-append}
use Rattle.std.specs.Option.{IfSome}
use Rattle.std.specs.Result.{IsOk}
use Rattle.ta_cert.specs.declared.fault.CertFault.TheVariants as fault
use Rattle.ta_cert.specs.Streams.{IsErrOrMemory}
use Rattle.ta_report.specs.Faults.{cert_fault_text}
use Rattle.ta_shelf.specs.ReadPiece.{ReadsPiece}
use Rattle.ta_shelf.specs.declared.fault.ShelfFault.{ShelfFault}
use Rattle.ta_shelf.proofs.PiecesSeen.{first_seen, first_spelled, piece_read, piece_refused, stage_faulty, stage_memory, stage_too_long, stage_unread}
use Rattle.ta_shelf.proofs.PiecesSeen.{told_absent, told_front, told_more, told_whole, whole_spelled}
use Rattle.std.proofs.lemmas.List.{nil_from_length}
use Rattle.ta_shelf.specs.Calls.{reads as of_reads}

-- the first line at fault lasts, or there was no memory
fault_lasts : (subject : Subject) (name text piece : List ℕ) (new : Checker) (f : CertFault) (refusal : Refusal) → (subject_of new) ≡ subject
    → CheckerFeedAnswers text piece new (Err f) → RefusedBy name f refusal → (refusal ≡ Memory)
    ⊎ (IsLastingFor subject (text ++ piece) f × SaysOfFile CERTIFICATE name (cert_fault_text f) refusal)
fault_lasts subject name text piece new fault.Memory refusal same fed says = inl says
fault_lasts subject name text piece new f refusal same fed says = inr (subst (λ (g : Subject). IsLastingFor g (text ++ piece) f) same fed, says)

-- the part of a piece that the limit allows
module _ (subject : Subject) (name text piece : List ℕ) (at allowed : ℕ) (new : Checker) (place : at ≡ length text) (within : at ≤ CERTIFICATE.bytes)
    (part : allowed ≡ min (length piece) (CERTIFICATE.bytes - at)) where
  few : allowed ≤ length piece
  few = omega (arith, part)

  fed_size : length (text ++ take allowed piece) ≡ at + allowed
  fed_size = (let size = length-take-le allowed piece few in omega (arith, place, size, length-append text (take allowed piece)))

  all_size : length (text ++ piece) ≡ at + length piece
  all_size = omega (arith, place, length-append text piece)

  -- all of it is allowed
  pub piece_allowed : length piece ≤ allowed → CheckerStandsFor new (text ++ take allowed piece) → IsAllowed new (text ++ piece)
  piece_allowed all stands =
      let whole : take allowed piece ≡ piece =
      (let none : length (drop allowed piece) ≡ 0 = omega (arith, length-drop allowed piece) in sym (append-nil (take allowed piece))
      ∙ ap (λ (xs : List ℕ). take allowed piece ++ xs) (sym (nil_from_length (drop allowed piece) none)) ∙ take-append-drop allowed piece) in
      record { stands = subst (λ (xs : List ℕ). CheckerStandsFor new (text ++ xs)) whole stands; within = omega (arith, all_size, part) }

  -- some of it isn't
  pub passes_limit : (refusal : Refusal) → allowed < length piece → IsExactFeed subject (text ++ take allowed piece) (Ok tt)
      → SaysOfFile CERTIFICATE name (longer_than CERTIFICATE.bytes) refusal → PassesLimit subject name (text ++ piece) refusal
  passes_limit refusal ltb-true exact says =
      let end : CERTIFICATE.bytes ≡ length text + allowed = omega (arith, part, place) in
      let front : text ++ take allowed piece ≡ take CERTIFICATE.bytes (text ++ piece) = sym
      (ap (λ (n : ℕ). take n (text ++ piece)) end ∙ take-append-add text piece allowed) in
      record {
        longer = omega (arith, all_size, part);
        goes_on = λ f lasting. no_fault f (Ok tt) refl (exact f (subst (λ (xs : List ℕ). IsLastingFor subject xs f) (sym front) lasting));
        says = says;
      }
    where
      no_fault : (f : CertFault) (answer : Result (Unit {0}) CertFault) → answer ≡ Ok tt → IsErrOrMemory answer f → ⊥
      no_fault f answer ok h = elim h [ inl is ↦ cc | inr is ↦ cc ]

  -- it breaks
  pub piece_breaks : (f : CertFault) (refusal : Refusal) → (subject_of new) ≡ subject → CheckerFeedAnswers text (take allowed piece) new (Err f)
      → RefusedBy name f refusal → (refusal ≡ Memory) ⊎ (PassesLimit subject name (text ++ piece) refusal ⊎ Breaks subject name (text ++ piece) refusal)
  piece_breaks f refusal same fed says = elim (fault_lasts subject name text (take allowed piece) new f refusal same fed says) [
    | inl memory ↦ inl memory
    | inr lasts ↦ inr (inr (record {
      front = text ++ take allowed piece;
      behind = drop allowed piece;
      all = ap (λ (xs : List ℕ). text ++ xs) (sym (take-append-drop allowed piece)) ∙ sym (append_assoc text (take allowed piece) (drop allowed piece));
      within = omega (arith, fed_size, part);
      fault = f;
      lasting = lasts.0;
      says = lasts.1;
    }))
  ]

-- a piece is read behind a text, and judged
module _ (subject : Subject) (files : Option Told) (name text buffer : List ℕ) (at count : ℕ) (first before now : List Event) (old new : Checker)
    (j : JudgedTo files name first before old text) (place : at ≡ length text) (some : 0 < length buffer) (few : count ≤ length buffer)
    (reads : IfSome files (λ m. ReadsPiece (m name) at buffer (Ok count))) (log : Grew (PieceBy name at buffer (Ok count)) before now) where
  grown : now ≡ first ++ of_reads (j.calls.added ++ log.added)
  grown = log.grown ∙ ap (λ (cs : List Event). cs ++ of_reads log.added) j.calls.grown ∙ append_assoc first (of_reads j.calls.added) (of_reads log.added)
      ∙ ap (λ (cs : List Event). first ++ cs) (sym (reads-append j.calls.added log.added))

  parts : ((count ≡ length buffer) × ReadsFirst name (j.calls.added ++ log.added) (text ++ take count buffer))
      ⊎ ((count < length buffer) × Spells name (j.calls.added ++ log.added) (text ++ take count buffer))
  parts = piece_read name text buffer at count j.calls.added log.added j.calls.such place few log.such

  reading : IsReading name (j.calls.added ++ log.added)
  reading = elim parts [ inl full ↦ inl full.1.in_order | inr short ↦ inr (_, _, short.1) ]

  begins : (front back : List ℕ) → text ++ take count buffer ≡ front ++ back → seen files (j.calls.added ++ log.added) name (Begins front)
  begins front back cut = (
    elim parts [
      | inl full ↦ first_seen name front back _ (subst (ReadsFirst name (j.calls.added ++ log.added)) cut full.1)
      | inr short ↦ first_spelled name front back _ (subst (Spells name (j.calls.added ++ log.added)) cut short.1)
    ],
    told_front files name front back
        (subst (λ (xs : List ℕ). where_told files name (Begins xs)) cut (told_more files name text buffer at count j.there place some reads)),
  )

  size : length (text ++ take count buffer) ≡ at + count
  size = (let part = length-take-le count buffer few in omega (arith, place, part, length-append text (take count buffer)))

  refuses : (refusal : Refusal) → (refusal ≡ Memory) ⊎
      (PassesLimit subject name (text ++ take count buffer) refusal ⊎ Breaks subject name (text ++ take count buffer) refusal)
      → IsUnproved subject files name refusal (j.calls.added ++ log.added)
  refuses refusal h = elim h [
    | inl memory ↦ subst (λ (r : Refusal). IsUnproved subject files name r (j.calls.added ++ log.added)) (sym memory)
        (stage_memory (certificate_kind subject) (λ (a : Accepted). a.patterns) files name _ reading)
    | inr fed ↦ elim fed [
      | inl passes ↦ stage_too_long (certificate_kind subject) (λ (a : Accepted). a.patterns) files name _ refusal passes.says reading (record {
        bytes = text ++ take count buffer;
        seen = begins (text ++ take count buffer) [] (sym (append-nil (text ++ take count buffer)));
        more = passes.longer;
        such = passes.goes_on;
      })
      | inr breaks ↦ stage_faulty (certificate_kind subject) (λ (a : Accepted). a.patterns) files name _ refusal (cert_fault_text breaks.fault) breaks.says
          reading (λ words is. inr (record {
            bytes = breaks.front;
            seen = begins breaks.front breaks.behind breaks.all;
            within = breaks.within;
            fault = breaks.fault;
            found = breaks.lasting;
            hopeless = λ more numbers proves. no_longer_certificate subject breaks.front breaks.fault breaks.lasting more numbers proves.accepted;
            words_are = is;
          }))
    ]
  ]

  pub turn : (ended : Bool) → (ended ≡ true → count < length buffer) → (ended ≡ false → length buffer ≤ count) → (result : Result (Option ℕ) Refusal)
      → PieceFed subject name text (take count buffer) ended new result → Turn subject files name at first now new result
  turn ended short full (Ok (Some next)) fed =
      let ltb-false = full fed.0 in (
        omega (arith, some, ltb-false, size, fed.1),
        text ++ take count buffer,
        fed.1,
        record {
          calls = record {
            added = j.calls.added ++ log.added;
            grown = grown;
            such = elim parts
                [ inl f ↦ f.1 | inr s ↦ absurd (let ltb-true = s.0 in omega arith) ];
          };
          there = λ more. told_more files name text buffer at count j.there place some reads;
          stands = fed.2.stands;
          within = fed.2.within;
        },
      )
  turn ended short full (Ok None) fed =
      let ltb-true = short fed.0 in
      record {
        added = j.calls.added ++ log.added;
        grown = grown;
        such = whole (elim parts [ inl f ↦ absurd (let same = f.0 in omega arith) | inr s ↦ s.1 ]) ltb-true fed.1;
      }
    where
      whole : Spells name (j.calls.added ++ log.added) (text ++ take count buffer) → count < length buffer → IsAllowed new (text ++ take count buffer)
          → JudgedWhole files name new (j.calls.added ++ log.added)
      whole spells ltb-true allowed = record {
        text = text ++ take count buffer;
        spells = spells;
        had = record {
          seen = (whole_spelled name _ _ spells, told_whole files name text buffer at count j.there place some reads ltb-true few);
          within =
              allowed.within;
        };
        stands = allowed.stands;
      }
  turn ended short full (Err refusal) fed = record { added = j.calls.added ++ log.added; grown = grown; such = refuses refusal fed }

-- a read behind a text was refused
pub turn_refused : (subject : Subject) (files : Option Told) (name text buffer : List ℕ) (at : ℕ) (first before now : List Event) (old new : Checker)
    (fault : ShelfFault) (refusal : Refusal) → JudgedTo files name first before old text → at ≡ length text
    → IfSome files (λ m. ReadsPiece (m name) at buffer (Err fault)) → Grew (PieceBy name at buffer (Err fault)) before now
    → UnreadBy CERTIFICATE name fault refusal → Turn subject files name at first now new (Err refusal)
turn_refused subject files name text buffer at first before now old new fault refusal j place reads log says = record {
  added = j.calls.added ++ log.added;
  grown = log.grown ∙ ap (λ (cs : List Event). cs ++ of_reads log.added) j.calls.grown ∙ append_assoc first (of_reads j.calls.added) (of_reads log.added)
      ∙ ap (λ (cs : List Event). first ++ cs) (sym (reads-append j.calls.added log.added));
  such = stage_unread (certificate_kind subject) (λ (a : Accepted). a.patterns) files name _ fault refusal says
      (piece_refused name text buffer at fault j.calls.added log.added j.calls.such place log.such) (λ is.
      told_absent files name buffer at (subst (λ (f : ShelfFault). IfSome files (λ m. ReadsPiece (m name) at buffer (Err f))) is reads));
}

-- the offset behind a piece, over files that are the same
pub turn_more : (subject : Subject) (files kept : Option Told) (name : List ℕ) (at : ℕ) (first now : List Event) (checker : Checker) (given : Option ℕ)
    (next : ℕ) → kept ≡ files → given ≡ Some next → Turn subject kept name at first now checker (Ok given)
    → Turn subject files name at first now checker (Ok (Some next))
turn_more subject files kept name at first now checker given next same is t = subst
    (λ (o : Option Told). Turn subject o name at first now checker (Ok (Some next))) same
    (subst (λ (r : Option ℕ). Turn subject kept name at first now checker (Ok r)) is t)

-- no read failed where none was made
pub no_read : {T : Type 0} (answer : Result T Refusal) (before after : ℕ) → ReadCause answer 0 0 → after ≡ before → ReadCause answer before after
no_read (Ok value) before after cause same = same
no_read (Err (Refused number who why)) before after cause same = same
no_read (Err (ReadFailed who)) before after cause same = absurd (elim cause.rose [ inl rose ↦ omega arith | inr stands ↦ omega arith ])
no_read (Err (PutFailed who)) before after cause same = absurd cause
no_read (Err Memory) before after cause same = same

pub says_only : (name words : List ℕ) (refusal : Refusal) → SaysOfFile CERTIFICATE name words refusal → ReadCause {T = Option ℕ} (Err refusal) 0 0
says_only name words (Refused number who why) says = refl
says_only name words (ReadFailed who) says = absurd says
says_only name words (PutFailed who) says = absurd says
says_only name words Memory says = absurd says

pub fault_only : (name : List ℕ) (f : CertFault) (refusal : Refusal) → RefusedBy name f refusal → ReadCause {T = Option ℕ} (Err refusal) 0 0
fault_only name fault.Memory refusal says = subst (λ (r : Refusal). ReadCause {T = Option ℕ} (Err r) 0 0) (sym says) refl
fault_only name f refusal says = says_only name (cert_fault_text f) refusal says

-- the end of a text
module _ (subject : Subject) (files : Option Told) (name : List ℕ) (checker : Checker) (calls : List Call) (j : JudgedWhole files name checker calls) where
  pub stage_proved : (accepted : Accepted) → CheckerFinishAnswers subject j.text (Ok accepted) → AllClaimsHold subject accepted.patterns
      → Stage (certificate_kind subject) (λ (a : Accepted). a.patterns) files name (Ok accepted) calls
  stage_proved accepted finished safe = record {
    reading = inr (j.text, _, j.spells);
    yields = (j.text, j.spells, j.had, record { accepted = finished; safe = safe });
  }

  first_at_end : (f : CertFault) → CheckerFinishAnswers subject j.text (Err f) → IsFirstFaultFor subject j.text f
  first_at_end (fault.Truncated n) h = h
  first_at_end _ h = absurd h

  says_at_end : (f : CertFault) (refusal : Refusal) → CheckerFinishAnswers subject j.text (Err f) → RefusedBy name f refusal
      → SaysOfFile CERTIFICATE name (cert_fault_text f) refusal
  says_at_end (fault.Truncated n) refusal h says = says
  says_at_end _ refusal h says = absurd h

  pub stage_ended : (f : CertFault) (refusal : Refusal) → CheckerFinishAnswers subject j.text (Err f) → IsExactCheck subject j.text (Err f)
      → RefusedBy name f refusal → IsUnproved subject files name refusal calls
  stage_ended f refusal finished exact says =
      stage_faulty (certificate_kind subject) (λ (a : Accepted). a.patterns) files name calls refusal (cert_fault_text f) (says_at_end f refusal finished says)
      (inr (j.text, _, j.spells)) (λ words is. inl (record {
        bytes = j.text;
        had = j.had;
        fault = f;
        found = record {
          first = first_at_end f finished;
          no_certificate = λ numbers certificate. no_ok f (Err f) refl (exact.certificate numbers certificate);
        };
        words_are = is;
      }))
    where
      no_ok : (f : CertFault) (answer : Result Accepted CertFault) → answer ≡ Err f → IsOk answer → ⊥
      no_ok f (Ok accepted) is ok = cc
      no_ok f (Err g) is ok = cc
