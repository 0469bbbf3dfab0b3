-- What a checker stands for, and what it answers, however the text is cut into pieces.
use Rattle.std.specs.Prelude.{ℕ, ◌≡◌, ◌⊎◌, true, false, List, ◌++◌, Result, Ok, Err, IsOk, IsErrOf}
use Rattle.ta_cert.specs.declared.fault.CertFault.{CertFault}
use Rattle.ta_cert.specs.declared.fault.CertFault.TheVariants as fault
use Rattle.ta_cert.specs.declared.line.Line.{Line}
use Rattle.ta_cert.specs.declared.reader.Reader.{Reader}
use Rattle.ta_cert.specs.Laws.{unnumbered}
use Rattle.ta_cert.specs.Streams.{IsErrOrMemory, start, state, steps}
use Rattle.ta_check.specs.declared.accepted.Accepted.{Accepted}
use Rattle.ta_check.specs.declared.checker.Checker.{Checker}
use Rattle.ta_check.specs.declared.position.Position.{Position}
use Rattle.ta_check.specs.Subjects.{Subject, claiming_with}
use Rattle.ta_check.specs.Certificate.{CertificateFor, MayClaimAll}
use Rattle.ta_check.specs.Faults.{IsFirstFaultFor, IsLastingFor}
use Rattle.ta_check.specs.Lines.{Standing, LeadThrough, first_standing}
use Rattle.ta_check.specs.Positions.{IsPositionAt}

-- a reader and a position are those after a text: the reader stands behind its lines, these may follow each other, and the position is where
-- they lead
pub record StandBehind (subject : Subject) (reader : Reader) (position : Position) (text : List ℕ) : Type 0 where
  pub lines : List (ℕ × Line)
  pub at : Standing
  pub going_on : reader.failed ≡ false
  pub read : steps text (start subject.line_bytes) ≡ (lines, Ok (state reader))
  pub leads : LeadThrough subject first_standing (unnumbered lines) at
  pub place : IsPositionAt subject position at

-- what a checker judges
abbrev pub subject_of : Checker → Subject
subject_of s = claiming_with s.claim s.scoped.now.file s.silent.now s.line_bytes

-- the checker stands for the text: the claim may be made, no piece was refused, and its fields are those of the text
pub record CheckerStandsFor (s : Checker) (text : List ℕ) : Type 0 where
  pub may : MayClaimAll (subject_of s)
  pub going_on : s.failed ≡ false
  pub stand : StandBehind (subject_of s) s.reader s.position text

-- the checker stands for some text, or a piece was refused; every checker that is made and fed has this property
abbrev pub IsSoundChecker : Checker → Type 0
IsSoundChecker s = (s.failed ≡ true) ⊎ ((text : List ℕ) × CheckerStandsFor s text)

-- a checker stood for a text: its answer to the next piece, and what it stands for then; "out of memory" is always allowed
abbrev pub CheckerFeedAnswers : List ℕ → List ℕ → Checker → Result (Unit {0}) CertFault → Type 0
CheckerFeedAnswers text piece new (Ok _) = CheckerStandsFor new (text ++ piece)
CheckerFeedAnswers text piece new (Err fault.Memory) = Unit {0}
CheckerFeedAnswers text piece new (Err f) = IsLastingFor (subject_of new) (text ++ piece) f

-- whatever the text with the next piece is, the answer says it, unless memory ran out
abbrev pub IsExactFeed : Subject → List ℕ → Result (Unit {0}) CertFault → Type 0
IsExactFeed subject text answer = (f : CertFault) → IsLastingFor subject text f → IsErrOrMemory answer f

-- a checker stood for a text: its answer at the end of the text
abbrev pub CheckerFinishAnswers : Subject → List ℕ → Result Accepted CertFault → Type 0
CheckerFinishAnswers subject text (Ok accepted) = CertificateFor subject text accepted.patterns
CheckerFinishAnswers subject text (Err (fault.Truncated n)) = IsFirstFaultFor subject text (fault.Truncated n)
CheckerFinishAnswers subject text (Err _) = ⊥

-- whatever the text is at its end, the answer says it
pub record IsExactCheck (subject : Subject) (text : List ℕ) (answer : Result Accepted CertFault) : Type 0 where
  pub certificate : (numbers : List ℕ) → CertificateFor subject text numbers → IsOk answer
  pub early : (n : ℕ) → IsFirstFaultFor subject text (fault.Truncated n) → IsErrOf answer (fault.Truncated n)
