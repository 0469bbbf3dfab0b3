-- The command `rest`: verdicts on runs that come to rest (deadlocks).
use Rattle.std.specs.Prelude.{ℕ, ◌+◌, ◌<◌, ◌≤◌, ◌≡◌, true, false, List, [], ◌∷◌, length, slice_get, Option, None, Some}
use Rattle.ta_base.specs.declared.limits.Limits.{Limits}
use Rattle.ta_automaton.specs.Narrow.{IsWithin}
use Rattle.ta_automaton.specs.declared.file.File.{File}
use Rattle.ta_automaton.specs.declared.pattern.Pattern.{Pattern}
use Rattle.ta_check.specs.Certificate.{QuietRestCertificate}
use Rattle.ta_report.specs.Picked.{first_picked, picked}
use Rattle.ta_report.specs.Telling.{report_of}
use Rattle.ta_report.specs.declared.pick.Pick.{Pick}
use Rattle.ta_report.specs.declared.verdict.ReportSample.{ReportSample}
use Rattle.ta_report.specs.declared.verdict.Verdict.{Verdict}
use Rattle.ta_verdict.specs.Rest.Verdicts.{AreRestVerdicts, RestVerdictHolds}
use Rattle.ta_verdict.specs.Rest.Budgets.{RestBudget, resting}
use Rattle.ta_verdict.specs.Rest.Certificates.{RestCertificateOf}
use Rattle.ta_shelf.specs.Calls as calls
use Rattle.ta_shelf.specs.Put.{Told, WhereTold}
use Rattle.ta_shelf.specs.Sink.{with_text}
use Rattle.ta_shelf.specs.declared.answer.Answer.{Answer}
use Rattle.ta_shelf.specs.declared.answer.Put.{Put}
use Rattle.ta_shelf.specs.Commands.{Meaning}
use Rattle.ta_shelf.specs.OutputCalls.{TellsFile}
use Rattle.ta_shelf.specs.Puts.{HoldsText, put_bytes, may_put}
use Rattle.ta_shelf.specs.Sights.{View}
use Rattle.ta_shelf.specs.Sparing.{spared}
use Rattle.ta_shelf.specs.Stages.{settles}
use Rattle.ta_verdict.specs.Certificates.{safe_among}
use Rattle.ta_verdict.specs.Verdicts.{IsSample, is_unknown}
use Rattle.ta_program.specs.Values.{limits_of}
use Rattle.ta_program.specs.declared.limits.TheConstants.{CERTIFICATE}
use Rattle.ta_program.specs.Asked.{Asked, ask_where}
use Rattle.ta_program.specs.Certified.{long_line}
use Rattle.ta_program.specs.Kinds.{IsFile, file_kind}
use Rattle.ta_program.specs.PatternOption.{IsPick, with_pick}
use Rattle.ta_program.specs.RestEnds.{FileEndings, IsEnds, at_ends}
use Rattle.ta_program.specs.RestWords.{RestWords, rest_words}
use Rattle.ta_program.specs.SilentNames.{AreSilent, LegalSilently, with_silent}
use Rattle.ta_program.specs.Statuses.{report_number, tells_nothing}

-- the certificate is put in the file with this name; the checker accepts it as one of exactly the patterns that are safe by the verdicts, with
-- lines as long as any limits allow within which the file is
pub record PutsRestOne (ending : File) (pick : Pick) (budget : RestBudget) (verdicts : List Verdict) (out : List ℕ) (puts : List Put) : Type 0 where
  pub put : Put
  pub only : puts ≡ put ∷ []
  pub named : put.name ≡ out
  pub certificate : RestCertificateOf ending pick budget verdicts (put_bytes put)
  pub within : length (put_bytes put) ≤ CERTIFICATE.bytes
  pub accepted : (l : Limits) → IsWithin l ending.automaton
      → QuietRestCertificate ending budget.silent l.line_bytes (put_bytes put) (safe_among ending pick verdicts)

-- what is put: nothing, or the certificate that is asked for
abbrev pub PutsRest : File → Pick → RestBudget → List Verdict → Option (List ℕ) → List Put → Type 0
PutsRest ending pick budget verdicts None puts = puts ≡ []
PutsRest ending pick budget verdicts (Some out) puts = PutsRestOne ending pick budget verdicts out puts

-- the report of the sample and of such verdicts on the picked patterns, in JSON or not, with the status that they give, and the certificate
-- that is asked for
pub record RestReports (asked : RestWords) (file : File) (ends : FileEndings) (budget : RestBudget) (pick : Pick) (answer : Answer) : Type 0 where
  pub sample : ReportSample
  pub is_sample : IsSample file budget.nodes sample
  pub verdicts : List Verdict
  pub are : AreRestVerdicts file ends.ending ends.added pick budget verdicts
  pub numbered : answer.number ≡ report_number asked.verify.all sample verdicts
  pub written : answer.text ≡ report_of true asked.verify.json file pick sample verdicts
  pub puts : PutsRest ends.ending pick budget verdicts asked.verify.out answer.puts

-- the certificate of a file's picked patterns is longer than a certificate may be
pub record LongRest (file : File) (ends : FileEndings) (budget : RestBudget) (pick : Pick) : Type 0 where
  pub verdicts : List Verdict
  pub are : AreRestVerdicts file ends.ending ends.added pick budget verdicts
  pub text : List ℕ
  pub certificate : RestCertificateOf ends.ending pick budget verdicts text
  pub longer : CERTIFICATE.bytes < length text

-- a certificate that is too long is refused
pub record IsLongRest (file : File) (ends : FileEndings) (budget : RestBudget) (pick : Pick) (out : List ℕ) (number : ℕ) (line : List ℕ) : Type 0 where
  pub numbered : number ≡ CERTIFICATE.number
  pub said : line ≡ long_line out
  pub long : LongRest file ends budget pick

-- why the certificate that is asked for is refused
abbrev pub HindersRest : File → FileEndings → RestBudget → Pick → Option (List ℕ) → ℕ → List ℕ → Type 0
HindersRest file ends budget pick None number line = ⊥
HindersRest file ends budget pick (Some out) number line = IsLongRest file ends budget pick out number line

-- the report says what is known of the parameters and, for each picked pattern, of runs that come to rest, unless the certificate that is
-- asked for is too long
abbrev pub rest_report_meaning : RestWords → File → FileEndings → RestBudget → Pick → Meaning
rest_report_meaning asked file ends budget pick = settles (may_put asked.verify.out) (RestReports asked file ends budget pick)
    (HindersRest file ends budget pick asked.verify.out)

-- the patterns are picked, and the report says what is known
abbrev pub rest_picked : RestWords → File → FileEndings → RestBudget → Meaning
rest_picked asked file ends budget = with_pick asked.verify.file asked.verify.pattern (may_put asked.verify.out) file
    (rest_report_meaning asked file ends budget)

-- the silent places are found, and the patterns and the report follow
abbrev pub rest_quietly : RestWords → File → FileEndings → Meaning
rest_quietly asked file ends = with_silent asked.verify.file asked.silent (may_put asked.verify.out) file
    (λ places. rest_picked asked file ends (resting asked.verify.budget places))

-- FILE is read, OUT is compared with it, its endings are computed, and then the silent places, the patterns and the report follow
abbrev pub rest_meaning : RestWords → Meaning
rest_meaning asked = spared (file_kind (limits_of asked.verify.wide)) asked.verify.file (may_put asked.verify.out)
    (at_ends asked.verify.file (may_put asked.verify.out) (rest_quietly asked))

-- FILE means an automaton whose cycles of rules are self-loops, the names may be silent in it, and it has the pattern that is asked for
pub record LegalRest (asked : RestWords) (told : Told) : Type 0 where
  pub silently : LegalSilently (limits_of asked.verify.wide) asked.verify.file asked.silent told
  pub pick : Pick
  pub is_pick : IsPick silently.file asked.verify.pattern pick

abbrev pub rest_asked : List (List ℕ) → Asked
rest_asked words = ask_where LegalRest rest_meaning (rest_words words)

-- for a file's endings, no verdict holds that leaves a picked pattern unknown
abbrev pub IsKnownAtRest : File → RestBudget → Pick → Type 0
IsKnownAtRest file budget pick =
    (ends : FileEndings) → IsEnds file ends
    → (place : ℕ) (own p : Pattern) (v : Verdict) → slice_get (picked pick file.patterns) place ≡ Some own
    → slice_get (picked pick ends.ending.patterns) place ≡ Some p → is_unknown v ≡ true
    → ¬ RestVerdictHolds file ends.ending ends.added budget (first_picked pick + place) own p v

-- the same; and with `--all`, what holds of the parameters and of these patterns tells something
pub record IsDecidedAtRest (asked : RestWords) (file : File) (budget : RestBudget) (pick : Pick) : Type 0 where
  pub known : IsKnownAtRest file budget pick
  pub tells : asked.verify.all ≡ true → (ends : FileEndings) → IsEnds file ends → (s : ReportSample) (vs : List Verdict) → IsSample file budget.nodes s
      → AreRestVerdicts file ends.ending ends.added pick budget vs → tells_nothing s vs ≡ false

-- the certificate of its endings is longer than a certificate may be
pub record LongAtRest (file : File) (budget : RestBudget) (pick : Pick) : Type 0 where
  pub ends : FileEndings
  pub are_ends : IsEnds file ends
  pub long : LongRest file ends budget pick

-- FILE is legal and its cycles are self-loops, the names may be silent in it, it has the pattern that is asked for, what is said of the
-- parameters holds, each verdict holds, these give the status, and the output gained the report
pub record RestReportHolds (number : ℕ) (view : View) (asked : RestWords) (written written' : Option (List ℕ)) : Type 0 where
  pub file : File
  pub is_file : IsFile (limits_of asked.verify.wide) view asked.verify.file file
  pub ends : FileEndings
  pub are_ends : IsEnds file ends
  pub silent : List ℕ
  pub are_silent : AreSilent file.automaton asked.silent silent
  pub pick : Pick
  pub is_pick : IsPick file asked.verify.pattern pick
  pub sample : ReportSample
  pub is_sample : IsSample file asked.verify.budget.nodes sample
  pub verdicts : List Verdict
  pub are : AreRestVerdicts file ends.ending ends.added pick (resting asked.verify.budget silent) verdicts
  pub numbered : report_number asked.verify.all sample verdicts ≡ number
  pub wrote : written' ≡ with_text written (report_of true asked.verify.json file pick sample verdicts)

-- the report holds; OUT holds the certificate of the patterns that it calls safe at rest, every other file is unchanged, and the calls put
-- exactly this text in the place of OUT, whole; the text is a certificate that proves exactly these patterns, so `rest-check` accepts it
pub record RestCertificateStands (number : ℕ) (view : View) (asked : RestWords) (out : List ℕ) (files files' : Option Told) (written written' : Option (List ℕ))
    (made : List calls.Put) : Type 0 where
  pub report : RestReportHolds number view asked written written'
  pub text : List ℕ
  pub certificate : RestCertificateOf report.ends.ending report.pick (resting asked.verify.budget report.silent) report.verdicts text
  pub within : length text ≤ CERTIFICATE.bytes
  pub stands : WhereTold (HoldsText out text) files files'
  pub told : TellsFile out text made
  pub accepted : QuietRestCertificate report.ends.ending report.silent (limits_of asked.verify.wide).line_bytes text
      (safe_among report.ends.ending report.pick report.verdicts)
