-- Checking a certificate while it is read.
use Rattle.std.specs.Prelude.{ℕ, ◌≡◌, ◌<◌, ◌≤◌, ◌⊎◌, Bool, true, false, List, ◌++◌, length, take, Option, None, Some, Result, Ok, Err}
use Rattle.ta_cert.specs.declared.fault.CertFault.{CertFault}
use Rattle.ta_cert.specs.declared.fault.CertFault.TheVariants as fault
use Rattle.ta_check.specs.declared.accepted.Accepted.{Accepted}
use Rattle.ta_check.specs.declared.checker.Checker.{Checker}
use Rattle.ta_check.specs.Checkers.{CheckerStandsFor, subject_of}
use Rattle.ta_check.specs.Faults.{IsLastingFor}
use Rattle.ta_check.specs.Subjects.{Subject}
use Rattle.ta_report.specs.Faults.{cert_fault_text}
use Rattle.ta_shelf.specs.Calls.{Call, Event, Grew, ReadsFirst, Spells}
use Rattle.ta_shelf.specs.Put.{Told}
use Rattle.ta_shelf.specs.declared.answer.Refusal.{Refusal}
use Rattle.ta_shelf.specs.declared.answer.Refusal.TheVariants.{Memory}
use Rattle.ta_shelf.specs.Lines.{longer_than}
use Rattle.ta_shelf.specs.Reading.{SaysOfFile}
use Rattle.ta_shelf.specs.Sights.{Begins, HasBytes, seen, where_told}
use Rattle.ta_shelf.specs.Stages.{ReadingGoesOn, Stage}
use Rattle.ta_program.specs.declared.limits.TheConstants.{CERTIFICATE}
use Rattle.ta_program.specs.Kinds.{certificate_kind}

-- the refusal names this error of the file with this name
abbrev pub RefusedBy : List ℕ → CertFault → Refusal → Type 0
RefusedBy name fault.Memory refusal = refusal ≡ Memory
RefusedBy name f refusal = SaysOfFile CERTIFICATE name (cert_fault_text f) refusal

-- the calls so far read this text, with which the known file begins, and the checker stands for it
pub record JudgedTo (files : Option Told) (name : List ℕ) (first now : List Event) (checker : Checker) (text : List ℕ) : Type 0 where
  pub calls : Grew (λ read. ReadsFirst name read text) first now
  pub there : 0 < length text → where_told files name (Begins text)
  pub stands : CheckerStandsFor checker text
  pub within : length text ≤ CERTIFICATE.bytes

-- the calls read exactly this text, which the file holds, and the checker stands for it
pub record JudgedWhole (files : Option Told) (name : List ℕ) (checker : Checker) (calls : List Call) : Type 0 where
  pub text : List ℕ
  pub spells : Spells name calls text
  pub had : HasBytes (seen files calls) name CERTIFICATE.bytes text
  pub stands : CheckerStandsFor checker text

-- the certificate is refused
abbrev pub IsUnproved : Subject → Option Told → List ℕ → Refusal → List Call → Type 0
IsUnproved subject files name refusal calls = Stage {T = Accepted} (certificate_kind subject) (λ accepted. accepted.patterns) files name (Err refusal) calls

-- what checking all pieces gives
abbrev pub JudgingGives : Subject → Option Told → List ℕ → Result Checker Refusal → List Call → Type 0
JudgingGives subject files name (Ok checker) calls = JudgedWhole files name checker calls × (subject_of checker ≡ subject)
JudgingGives subject files name (Err refusal) calls = IsUnproved subject files name refusal calls

-- what checking one piece gives, which begins at an offset: the offset after it, or that the file ended
abbrev pub Turn : Subject → Option Told → List ℕ → ℕ → List Event → List Event → Checker → Result (Option ℕ) Refusal → Type 0
Turn subject files name at first now checker (Ok (Some next)) = (at < next) × (text : List ℕ) × (next ≡ length text)
    × JudgedTo files name first now checker text
Turn subject files name at first now checker (Ok None) = Grew (JudgedWhole files name checker) first now
Turn subject files name at first now checker (Err refusal) = Grew (IsUnproved subject files name refusal) first now

-- the checker stands for a text, which a certificate's limit allows
pub record IsAllowed (checker : Checker) (text : List ℕ) : Type 0 where
  pub stands : CheckerStandsFor checker text
  pub within : length text ≤ CERTIFICATE.bytes

-- a text is longer than a certificate may be, and what is allowed of it has no lasting error
pub record PassesLimit (subject : Subject) (name text : List ℕ) (refusal : Refusal) : Type 0 where
  pub longer : CERTIFICATE.bytes < length text
  pub goes_on : ReadingGoesOn (certificate_kind subject) (take CERTIFICATE.bytes text)
  pub says : SaysOfFile CERTIFICATE name (longer_than CERTIFICATE.bytes) refusal

-- the first bytes of a text, within the limit, have this error, and it lasts
pub record Breaks (subject : Subject) (name text : List ℕ) (refusal : Refusal) : Type 0 where
  pub front : List ℕ
  pub behind : List ℕ
  pub all : text ≡ front ++ behind
  pub within : length front ≤ CERTIFICATE.bytes
  pub fault : CertFault
  pub lasting : IsLastingFor subject front fault
  pub says : SaysOfFile CERTIFICATE name (cert_fault_text fault) refusal

-- what a piece after a text gives, which may end the file: the offset after it, or that the file ended
abbrev pub PieceFed : Subject → List ℕ → List ℕ → List ℕ → Bool → Checker → Result (Option ℕ) Refusal → Type 0
PieceFed subject name text piece ended checker (Ok (Some next)) = (ended ≡ false) × (next ≡ length (text ++ piece)) × IsAllowed checker (text ++ piece)
PieceFed subject name text piece ended checker (Ok None) = (ended ≡ true) × IsAllowed checker (text ++ piece)
PieceFed subject name text piece ended checker (Err refusal) = (refusal ≡ Memory)
    ⊎ (PassesLimit subject name (text ++ piece) refusal ⊎ Breaks subject name (text ++ piece) refusal)
