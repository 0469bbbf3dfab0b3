-- What the output of `verify` and of `rest` says, both ways: the report says of each pattern that it is about exactly the verdict that
-- holds, and of the parameters exactly what holds of them.
use Rattle.std.specs.Prelude.{ℕ, ◌≡◌, ◌≤◌, ◌↔◌, Bool, true, false, List, length, slice_get, Option, Some}
use Rattle.std.specs.List.{AllByRecursion}
use Rattle.ta_automaton.specs.declared.file.File.{File}
use Rattle.ta_automaton.specs.declared.pattern.Pattern.{Pattern}
use Rattle.ta_report.specs.Picked.{entry_of, picked}
use Rattle.ta_report.specs.Report.{SampleFits, VerdictFits}
use Rattle.ta_report.specs.Telling.{report_of}
use Rattle.ta_report.specs.declared.pick.Pick.{Pick}
use Rattle.ta_report.specs.declared.verdict.ReportSample.{ReportSample}
use Rattle.ta_report.specs.declared.verdict.Verdict.{Verdict}
use Rattle.ta_shelf.specs.Sink.{with_text}
use Rattle.ta_shelf.specs.Puts.{may_put}
use Rattle.ta_shelf.specs.Sights.{View}
use Rattle.ta_verdict.specs.Rest.Budgets.{resting}
use Rattle.ta_verdict.specs.Rest.Verdicts.{RestVerdictHolds}
use Rattle.ta_verdict.specs.Verdicts.{IsSample, VerdictHolds}
use Rattle.ta_program.specs.Ended.{Did, Ended}
use Rattle.ta_program.specs.Headline.{HoldsFile}
use Rattle.ta_program.specs.PatternOption.{HasName, IsPick}
use Rattle.ta_program.specs.RestEnds.{FileEndings, IsEnds}
use Rattle.ta_program.specs.RestWords.{RestWords, rest_of}
use Rattle.ta_program.specs.SilentNames.{AreSilent}
use Rattle.ta_program.specs.VerifyWords.{VerifyWords, verify_of}

-- the text is the report of the picked patterns of a file, or that of `rest`, in lines or as JSON, of these parts, whose counts are below
-- 2^64
pub record IsReportOf (rest json : Bool) (file : File) (pick : Pick) (sample : ReportSample) (verdicts : List Verdict) (text : List ℕ) : Type 0 where
  pub sample_fits : SampleFits file sample
  pub count : length verdicts ≡ length (picked pick file.patterns)
  pub fit : AllByRecursion (VerdictFits file) verdicts
  pub is : text ≡ report_of rest json file pick sample verdicts

-- a report gives this verdict of the pattern with this number: as `unknown, 7 nodes spent` gives that the budget is spent at 7 nodes
pub record GivesVerdict (rest json : Bool) (file : File) (pick : Pick) (number : ℕ) (v : Verdict) (text : List ℕ) : Type 0 where
  pub sample : ReportSample
  pub verdicts : List Verdict
  pub report : IsReportOf rest json file pick sample verdicts text
  pub at : entry_of pick verdicts number ≡ Some v

-- a report gives this of the parameters
pub record GivesSample (rest json : Bool) (file : File) (pick : Pick) (sample : ReportSample) (text : List ℕ) : Type 0 where
  pub verdicts : List Verdict
  pub report : IsReportOf rest json file pick sample verdicts text

-- the bytes under FILE mean a file; the output gives of each pattern, or of the one with the name that is given, a verdict exactly if it
-- holds, unknown ones too: `N nodes spent` exactly if N is the budget, the defined search visits N nodes and one is left, and `outside
-- 128 bits at node K` exactly if its node K meets that cause. Of the parameters it gives a sample, that there are none, or why none was found,
-- exactly if that holds of them
pub record EachReported (asked : VerifyWords) (view : View) (written written' : Option (List ℕ)) : Type 0 where
  pub file : File
  pub holds : HoldsFile view asked.file file
  pub pick : Pick
  pub is_pick : IsPick file asked.pattern pick
  pub text : List ℕ
  pub gained : written' ≡ with_text written text
  pub verdict : (number : ℕ) (p : Pattern) (v : Verdict) → slice_get file.patterns number ≡ Some p → HasName asked.pattern p → VerdictFits file v
      → GivesVerdict false asked.json file pick number v text ↔ VerdictHolds file asked.budget number p v
  pub parameters : (sample : ReportSample) → GivesSample false asked.json file pick sample text ↔ IsSample file asked.budget.nodes sample

-- the same of runs that come to rest, with the silent places of the names that are given: the defined search is that of the pattern's ending,
-- which has the pattern's number
pub record EachReportedAtRest (asked : RestWords) (view : View) (written written' : Option (List ℕ)) : Type 0 where
  pub file : File
  pub holds : HoldsFile view asked.verify.file file
  pub ends : FileEndings
  pub are_ends : IsEnds file ends
  pub silent : List ℕ
  pub are_silent : AreSilent file.automaton asked.silent silent
  pub pick : Pick
  pub is_pick : IsPick file asked.verify.pattern pick
  pub text : List ℕ
  pub gained : written' ≡ with_text written text
  pub verdict : (number : ℕ) (own p : Pattern) (v : Verdict) → slice_get file.patterns number ≡ Some own → slice_get ends.ending.patterns number ≡ Some p
      → HasName asked.verify.pattern own → VerdictFits file v
      → GivesVerdict true asked.verify.json file pick number v text
      ↔ RestVerdictHolds file ends.ending ends.added (resting asked.verify.budget silent) number own p v
  pub parameters : (sample : ReportSample) → GivesSample true asked.verify.json file pick sample text ↔ IsSample file asked.verify.budget.nodes sample

-- `verify FILE` and `rest FILE` with status 0, 1 or 2
pub record ReportsExactly (r : Ended) : Type 0 where
  pub verify : (asked : VerifyWords) → verify_of r.words ≡ Some asked → r.status ≤ 2
      → Did r (may_put asked.out) (λ view. EachReported asked view r.before.written r.after.written)
  pub rest : (asked : RestWords) → rest_of r.words ≡ Some asked → r.status ≤ 2
      → Did r (may_put asked.verify.out) (λ view. EachReportedAtRest asked view r.before.written r.after.written)
