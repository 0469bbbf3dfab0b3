-- The report that `verify` writes.
use Rattle.std.specs.Prelude.{ℕ, ◌≤◌, ◌≡◌, true, false, List, length, Option}
use Rattle.ta_automaton.specs.declared.file.File.{File}
use Rattle.ta_check.specs.Certificate.{Certificate}
use Rattle.ta_report.specs.declared.pick.Pick.{Pick}
use Rattle.ta_report.specs.declared.verdict.ReportSample.{ReportSample}
use Rattle.ta_report.specs.declared.verdict.Verdict.{Verdict}
use Rattle.ta_report.specs.Telling.{report_of}
use Rattle.ta_shelf.specs.Calls.{Put}
use Rattle.ta_shelf.specs.Put.{Told, WhereTold}
use Rattle.ta_shelf.specs.Sink.{with_text}
use Rattle.ta_shelf.specs.declared.answer.Answer.{Answer}
use Rattle.ta_shelf.specs.Commands.{Meaning}
use Rattle.ta_shelf.specs.OutputCalls.{TellsFile}
use Rattle.ta_shelf.specs.Puts.{HoldsText, may_put}
use Rattle.ta_shelf.specs.Sights.{View}
use Rattle.ta_shelf.specs.Sparing.{spared}
use Rattle.ta_shelf.specs.Stages.{settles}
use Rattle.ta_program.specs.Values.{limits_of}
use Rattle.ta_program.specs.declared.limits.TheConstants.{CERTIFICATE}
use Rattle.ta_verdict.specs.Certificates.{CertificateOn, safe_among}
use Rattle.ta_program.specs.Certified.{HindersCertificate, PutsCertificate}
use Rattle.ta_program.specs.Asked.{Asked, ask_where}
use Rattle.ta_program.specs.Kinds.{IsFile, file_kind}
use Rattle.ta_verdict.specs.Verdicts.{AreVerdictsOn, IsKnown, IsSample}
use Rattle.ta_program.specs.PatternOption.{IsPick, LegalPicked, with_pick}
use Rattle.ta_program.specs.Statuses.{report_number, tells_nothing}
use Rattle.ta_program.specs.VerifyWords.{VerifyWords, verify_words}

-- the report of the sample and of such verdicts on the picked patterns, in JSON or not, with the status that they give, and the certificate
-- that is asked for
pub record Reports (asked : VerifyWords) (file : File) (pick : Pick) (answer : Answer) : Type 0 where
  pub sample : ReportSample
  pub is_sample : IsSample file asked.budget.nodes sample
  pub verdicts : List Verdict
  pub are : AreVerdictsOn file pick asked.budget verdicts
  pub numbered : answer.number ≡ report_number asked.all sample verdicts
  pub written : answer.text ≡ report_of false asked.json file pick sample verdicts
  pub puts : PutsCertificate file pick asked.budget verdicts asked.out answer.puts

-- the report says what is known of the parameters and of each picked pattern, unless the certificate that is asked for is too long
abbrev pub report_meaning : VerifyWords → File → Pick → Meaning
report_meaning asked file pick = settles (may_put asked.out) (Reports asked file pick) (HindersCertificate file pick asked.budget asked.out)

-- the patterns are picked, and the report says what is known
abbrev pub picked_meaning : VerifyWords → File → Meaning
picked_meaning asked file = with_pick asked.file asked.pattern (may_put asked.out) file (report_meaning asked file)

-- FILE is read, OUT is compared with it, and the patterns and the report follow
abbrev pub verify_meaning : VerifyWords → Meaning
verify_meaning asked = spared (file_kind (limits_of asked.wide)) asked.file (may_put asked.out) (picked_meaning asked)

abbrev pub verify_asked : List (List ℕ) → Asked
verify_asked words = ask_where (λ asked. LegalPicked (limits_of asked.wide) asked.file asked.pattern) verify_meaning (verify_words words)

-- FILE is legal and has the pattern that is asked for, what is said of the parameters holds, each verdict holds, these give the status, and
-- the output gained the report
pub record ReportHolds (number : ℕ) (view : View) (asked : VerifyWords) (written written' : Option (List ℕ)) : Type 0 where
  pub file : File
  pub is_file : IsFile (limits_of asked.wide) view asked.file file
  pub pick : Pick
  pub is_pick : IsPick file asked.pattern pick
  pub sample : ReportSample
  pub is_sample : IsSample file asked.budget.nodes sample
  pub verdicts : List Verdict
  pub are : AreVerdictsOn file pick asked.budget verdicts
  pub numbered : report_number asked.all sample verdicts ≡ number
  pub wrote : written' ≡ with_text written (report_of false asked.json file pick sample verdicts)

-- the report holds; OUT holds the certificate of the patterns that it calls safe, every other file is unchanged, and the calls put exactly
-- this text in the place of OUT, whole; the text is a certificate of FILE that proves exactly these patterns, so `check` accepts it
pub record CertificateStands (number : ℕ) (view : View) (asked : VerifyWords) (out : List ℕ) (files files' : Option Told) (written written' : Option (List ℕ))
    (made : List Put) : Type 0 where
  pub report : ReportHolds number view asked written written'
  pub text : List ℕ
  pub certificate : CertificateOn report.file report.pick asked.budget report.verdicts text
  pub within : length text ≤ CERTIFICATE.bytes
  pub stands : WhereTold (HoldsText out text) files files'
  pub told : TellsFile out text made
  pub accepted : Certificate report.file (limits_of asked.wide).line_bytes text (safe_among report.file report.pick report.verdicts)

-- no verdict holds that leaves a picked pattern unknown; with `--all`, what holds of the parameters and of these patterns tells something
pub record IsDecided (asked : VerifyWords) (file : File) (pick : Pick) : Type 0 where
  pub known : IsKnown file pick asked.budget
  pub tells : asked.all ≡ true → (s : ReportSample) (vs : List Verdict) → IsSample file asked.budget.nodes s → AreVerdictsOn file pick asked.budget vs
      → tells_nothing s vs ≡ false
