-- What visits of schemas of rest find, and that verdicts at rest are unique.
use Rattle.std.specs.Prelude.{ℕ, ◌≡◌, Bool, true, List, slice_get, Some}
use Rattle.std.specs.List.{AllByRecursion}
use Rattle.ta_automaton.specs.declared.file.File.{File}
use Rattle.ta_automaton.specs.declared.pattern.Pattern.{Pattern}
use Rattle.ta_encode.specs.declared.encoded.Solution.{Solution}
use Rattle.ta_report.specs.Report.{VerdictFits}
use Rattle.ta_report.specs.Telling.{report_of}
use Rattle.ta_report.specs.declared.pick.Pick.{Pick}
use Rattle.ta_report.specs.declared.verdict.ReportSample.{ReportSample}
use Rattle.ta_report.specs.declared.verdict.Verdict.{Verdict}
use Rattle.ta_rest.specs.Faults.{EndingsOf}
use Rattle.ta_rest.specs.RestSearch.{rest_search}
use Rattle.ta_witness.specs.Runs.{IsRestSolution}
use Rattle.ta_walk.specs.Ends.{NodeOf, SolutionAt}
use Rattle.ta_verdict.specs.Rest.Budgets.{RestBudget}
use Rattle.ta_verdict.specs.Rest.Verdicts.{AreRestVerdicts}

-- what a visit finds solves the system of rest of a complete legal schema
abbrev pub RestsAreSolved : Type 0
RestsAreSolved =
    (file : File) (number : ℕ) (p : Pattern) → slice_get file.patterns number ≡ Some p
    → (budget count : ℕ) (solution : Solution) → NodeOf (rest_search file.automaton p) budget count (SolutionAt (rest_search file.automaton p) number solution)
    → IsRestSolution file solution

-- a file has one list of verdicts on its picked patterns for a budget
abbrev pub RestVerdictsAreDetermined : Type 0
RestVerdictsAreDetermined =
    (file ending : File) (added : ℕ) (pick : Pick) (budget : RestBudget) → EndingsOf file ending added
    → (vs ws : List Verdict) → AreRestVerdicts file ending added pick budget vs → AreRestVerdicts file ending added pick budget ws
    → vs ≡ ws

-- the report of a file's own patterns is that of their endings: these have the same names, and so have their events
abbrev pub RestTextsAreAlike : Type 0
RestTextsAreAlike =
    (file ending : File) (added : ℕ) → EndingsOf file ending added
    → (json : Bool) (pick : Pick) (sample : ReportSample) (vs : List Verdict) → AllByRecursion (VerdictFits file) vs
    → report_of true json ending pick sample vs ≡ report_of true json file pick sample vs
