-- The report of known verdicts.
use Rattle.std.specs.Prelude.{ℕ, ◌≡◌, List}
use Rattle.ta_automaton.specs.declared.file.File.{File}
use Rattle.ta_report.specs.declared.pick.Pick.{Pick}
use Rattle.ta_report.specs.declared.verdict.ReportSample.{ReportSample}
use Rattle.ta_report.specs.declared.verdict.Verdict.{Verdict}
use Rattle.ta_report.specs.Telling.{report_of}
use Rattle.ta_rest.specs.declared.rest_file.RestFile.{RestFile}
use Rattle.ta_verdict.specs.Certificates.{Certified}
use Rattle.ta_verdict.specs.Rest.Budgets.{RestBudget}
use Rattle.ta_verdict.specs.Rest.Certificates.{RestCertified}
use Rattle.ta_verdict.specs.Rest.Verdicts.{OwnVerdicts}
use Rattle.ta_verdict.specs.Verdicts.{AreVerdictsOn, IsSample}
use Rattle.ta_verdict.specs.declared.budget.Budget.{Budget}
use Rattle.ta_program.specs.declared.telling.Form.{Form}
use Rattle.ta_program.specs.Statuses.{report_number}

-- the number and the text are those of a report, or of that of `rest`, of a sample within a budget of nodes and of these verdicts
pub record SampleReported (form : Form) (file : File) (pick : Pick) (nodes : ℕ) (verdicts : List Verdict) (number : ℕ) (text : List ℕ) : Type 0 where
  pub sample : ReportSample
  pub is_sample : IsSample file nodes sample
  pub numbered : number ≡ report_number form.all sample verdicts
  pub written : text ≡ report_of form.rest form.json file pick sample verdicts

-- the number and the text are those of the report of verdicts on the picked patterns, and their certificate is what has a text
pub record ReportedTo (form : Form) (file : File) (pick : Pick) (budget : Budget) (number : ℕ) (text : List ℕ) (Has : List ℕ → Type 0) : Type 0 where
  pub verdicts : List Verdict
  pub are : AreVerdictsOn file pick budget verdicts
  pub reported : SampleReported form file pick budget.nodes verdicts number text
  pub certified : Certified file pick budget verdicts Has

-- the same of verdicts on runs that come to rest, for a file of endings
pub record RestReportedTo (form : Form) (rest : RestFile) (pick : Pick) (budget : RestBudget) (number : ℕ) (text : List ℕ) (Has : List ℕ → Type 0) : Type 0
  where
    pub verdicts : List Verdict
    pub are : OwnVerdicts rest pick budget verdicts
    pub reported : SampleReported form rest.ending.file pick budget.nodes verdicts number text
    pub certified : RestCertified rest.ending.file pick budget verdicts Has
