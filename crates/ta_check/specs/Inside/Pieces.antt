-- What taking the lines of a piece, one after another, answers.
use Rattle.std.specs.Prelude.{ℕ, ◌<◌, ◌≤◌, ◌≢◌, List, ◌++◌, length, take, Option, Some, None, Result, Ok, Err}
use Rattle.ta_cert.specs.declared.fault.CertFault.{CertFault}
use Rattle.ta_cert.specs.declared.fault.CertFault.TheVariants as fault
use Rattle.ta_cert.specs.declared.reader.Reader.{Reader}
use Rattle.ta_check.specs.declared.position.Position.{Position}
use Rattle.ta_check.specs.Subjects.{Subject}
use Rattle.ta_check.specs.Checkers.{StandBehind}
use Rattle.ta_check.specs.Faults.{IsLastingFor}

-- a reader and a position stand after some text, for some number of bytes that its lines may have
abbrev pub StandSomewhere : (ℕ → Subject) → Reader → Position → Type 0
StandSomewhere subject reader position = (limit : ℕ) × (text : List ℕ) × StandBehind (subject limit) reader position text

-- an error that the text keeps, or memory ran out; it is not that of a reader that was refused before
pub record IsToldOf (subject : Subject) (text : List ℕ) (f : CertFault) : Type 0 where
  pub fresh : f ≢ fault.Failed
  pub lasts : f ≢ fault.Memory → IsLastingFor subject text f

-- where they stand after a piece that makes the text this one
abbrev pub TakenTo : Subject → List ℕ → Reader → Position → Result (Unit {0}) CertFault → Type 0
TakenTo subject text reader position (Ok _) = StandBehind subject reader position text
TakenTo subject text reader position (Err f) = IsToldOf subject text f

-- where they stand after this many bytes, up to the next line feed; or after all bytes where there is none
abbrev pub NextTaken : Subject → List ℕ → List ℕ → Reader → Position → Result (Option ℕ) CertFault → Type 0
NextTaken subject text bytes reader position (Ok None) = StandBehind subject reader position (text ++ bytes)
NextTaken subject text bytes reader position (Ok (Some taken)) = (0 < taken) × (taken ≤ length bytes)
    × StandBehind subject reader position (text ++ take taken bytes)
NextTaken subject text bytes reader position (Err f) = IsToldOf subject (text ++ bytes) f
