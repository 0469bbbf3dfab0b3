-- The kinds of files that commands read: FILE, CERT and RUN, and what their bytes may be.
use Rattle.std.specs.Prelude.{ℕ, ◌≢◌, ◌⊎◌, List}
use Rattle.ta_automaton.specs.declared.file.File.{File}
use Rattle.ta_cert.specs.declared.fault.CertFault.{CertFault}
use Rattle.ta_check.specs.Certificate.{AllClaimsHold, CertificateFor}
use Rattle.ta_check.specs.Faults.{IsFirstFaultFor, IsLastingFor}
use Rattle.ta_check.specs.Subjects.{Subject}
use Rattle.ta_syntax.specs.declared.fault.FileFault.{FileFault}
use Rattle.ta_meaning.specs.FirstFault.{FirstFault}
use Rattle.ta_base.specs.declared.limits.Limits.{Limits}
use Rattle.ta_meaning.specs.Reading.{Legal}
use Rattle.ta_replay.specs.declared.fault.RunFault.{RunFault}
use Rattle.ta_replay.specs.declared.fault.RunFault.TheVariants as fault
use Rattle.ta_replay.specs.declared.run.Run.{Run}
use Rattle.ta_replay.specs.RunText.{IsRunText}
use Rattle.ta_replay.specs.TextFaults.{TextFault}
use Rattle.ta_replay.specs.Shows.{Shows}
use Rattle.ta_replay.specs.Replays.{ReplayStays}
use Rattle.ta_replay.specs.ReplayFaults.{ReplayFault}
use Rattle.ta_report.specs.Faults.{cert_fault_text, file_fault_text, run_fault_text}
use Rattle.ta_shelf.specs.Sights.{View}
use Rattle.ta_shelf.specs.declared.file_reading.Limit.{Limit}
use Rattle.ta_shelf.specs.Stages.{FileMeans, Kind}
use Rattle.ta_program.specs.declared.limits.TheConstants.{CERTIFICATE, FILE_NUMBER, RUN}

-- how long FILE may be within a row of limits, and the status if it is longer
abbrev pub file_limit : Limits → Limit
file_limit l = record { bytes = l.bytes; number = FILE_NUMBER }

-- FILE within a row of limits: bytes that mean an automaton and its patterns, if any, or have a first error
abbrev pub file_kind : Limits → Kind File FileFault
file_kind l = record { limit = file_limit l; means = Legal l; at_fault = FirstFault l; broken = λ bytes fault. ⊥; words = file_fault_text }

-- within these limits the bytes under this name mean this file
abbrev pub IsFile : Limits → View → List ℕ → File → Type 0
IsFile l view name file = FileMeans (file_kind l) view name file

-- the bytes are a certificate of what is claimed of the file's patterns of these numbers, and it holds of each
pub record Proves (subject : Subject) (bytes numbers : List ℕ) : Type 0 where
  pub accepted : CertificateFor subject bytes numbers
  pub safe : AllClaimsHold subject numbers

-- the first error of bytes that are not a certificate
pub record CertificateFault (subject : Subject) (bytes : List ℕ) (found : CertFault) : Type 0 where
  pub first : IsFirstFaultFor subject bytes found
  pub no_certificate : (numbers : List ℕ) → ¬ CertificateFor subject bytes numbers

-- CERT, for what is claimed of a file; reading ends at an error that each longer text keeps
abbrev pub certificate_kind : Subject → Kind (List ℕ) CertFault
certificate_kind subject = record
    { limit = CERTIFICATE; means = Proves subject; at_fault = CertificateFault subject; broken = IsLastingFor subject; words = cert_fault_text }

-- the bytes are the text of a run that shows its pattern in a replay that stays in range
pub record ShowsRun (file : File) (bytes : List ℕ) (run : Run) : Type 0 where
  pub text : IsRunText file run bytes
  pub shows : Shows file run
  pub stays : ReplayStays file run

-- the bytes are the text of a run, and this is the first error of its replay
pub record IsReplayFault (file : File) (bytes : List ℕ) (found : RunFault) : Type 0 where
  pub run : Run
  pub text : IsRunText file run bytes
  pub first : ReplayFault file run found

-- the first error of a text as a run of a file, or of its replay; so it is not the text of a run that shows its pattern in range
pub record RunFaultIn (file : File) (bytes : List ℕ) (found : RunFault) : Type 0 where
  pub no_memory : found ≢ fault.Memory
  pub first : TextFault file bytes found ⊎ IsReplayFault file bytes found
  pub shows_nothing : (run : Run) → ¬ ShowsRun file bytes run

-- RUN, for a file
abbrev pub run_kind : File → Kind Run RunFault
run_kind file = record { limit = RUN; means = ShowsRun file; at_fault = RunFaultIn file; broken = λ bytes fault. ⊥; words = run_fault_text }
