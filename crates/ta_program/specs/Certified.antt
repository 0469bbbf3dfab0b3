-- The certificate that `verify` writes.
use Rattle.std.specs.Prelude.{ℕ, ◌<◌, ◌≤◌, ◌≡◌, List, [], ◌∷◌, ◌++◌, codes, decimal, length, Option, None, Some}
use Rattle.ta_automaton.specs.Narrow.{IsWithin}
use Rattle.ta_base.specs.declared.limits.Limits.{Limits}
use Rattle.ta_automaton.specs.declared.file.File.{File}
use Rattle.ta_check.specs.Certificate.{Certificate}
use Rattle.ta_report.specs.declared.pick.Pick.{Pick}
use Rattle.ta_report.specs.declared.verdict.Verdict.{Verdict}
use Rattle.ta_shelf.specs.declared.answer.Put.{Put}
use Rattle.ta_shelf.specs.Lines.{file_line}
use Rattle.ta_shelf.specs.Puts.{put_bytes}
use Rattle.ta_program.specs.declared.limits.TheConstants.{CERTIFICATE}
use Rattle.ta_verdict.specs.Certificates.{CertificateOn, safe_among}
use Rattle.ta_verdict.specs.Verdicts.{AreVerdictsOn}
use Rattle.ta_verdict.specs.declared.budget.Budget.{Budget}

-- the certificate of a file's picked patterns is longer than a certificate may be
pub record LongCertificate (file : File) (pick : Pick) (budget : Budget) : Type 0 where
  pub verdicts : List Verdict
  pub are : AreVerdictsOn file pick budget verdicts
  pub text : List ℕ
  pub certificate : CertificateOn file pick budget verdicts text
  pub longer : CERTIFICATE.bytes < length text

-- the line that says so
abbrev pub long_line : List ℕ → List ℕ
long_line out = file_line out (codes "certificate longer than " ++ (decimal CERTIFICATE.bytes ++ codes " bytes"))

-- a certificate that is too long is refused
pub record IsLong (file : File) (pick : Pick) (budget : Budget) (out : List ℕ) (number : ℕ) (line : List ℕ) : Type 0 where
  pub numbered : number ≡ CERTIFICATE.number
  pub said : line ≡ long_line out
  pub long : LongCertificate file pick budget

-- why the certificate that is asked for is refused
abbrev pub HindersCertificate : File → Pick → Budget → Option (List ℕ) → ℕ → List ℕ → Type 0
HindersCertificate file pick budget None number line = ⊥
HindersCertificate file pick budget (Some out) number line = IsLong file pick budget out number line

-- the certificate is put in the file with this name; the checker accepts it as one of exactly the patterns that are safe by the verdicts, with
-- lines as long as any limits allow within which the file is
pub record PutsOne (file : File) (pick : Pick) (budget : Budget) (verdicts : List Verdict) (out : List ℕ) (puts : List Put) : Type 0 where
  pub put : Put
  pub only : puts ≡ put ∷ []
  pub named : put.name ≡ out
  pub certificate : CertificateOn file pick budget verdicts (put_bytes put)
  pub within : length (put_bytes put) ≤ CERTIFICATE.bytes
  pub accepted : (l : Limits) → IsWithin l file.automaton → Certificate file l.line_bytes (put_bytes put) (safe_among file pick verdicts)

-- what is put: nothing, or the certificate that is asked for
abbrev pub PutsCertificate : File → Pick → Budget → List Verdict → Option (List ℕ) → List Put → Type 0
PutsCertificate file pick budget verdicts None puts = puts ≡ []
PutsCertificate file pick budget verdicts (Some out) puts = PutsOne file pick budget verdicts out puts
