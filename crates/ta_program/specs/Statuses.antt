-- The exit status of a report.
use Rattle.std.specs.Prelude.{ℕ, ◌≡◌, ◌==◌, ◌&&◌, Bool, true, false, List, [], ◌∷◌, if◌then◌else◌}
use Rattle.std.specs.List.{list_any}
use Rattle.ta_report.specs.declared.verdict.ReportSample.{ReportSample}
use Rattle.ta_report.specs.declared.verdict.ReportSample.TheVariants as sample
use Rattle.ta_report.specs.declared.verdict.Verdict.{Verdict}
use Rattle.ta_verdict.specs.Verdicts.{is_unknown, is_unsafe}

-- 1 if some pattern is unsafe, otherwise 2 if some pattern is unknown, otherwise 0
abbrev pub verdicts_number : List Verdict → ℕ
verdicts_number vs = if list_any is_unsafe vs then 1 else (if list_any is_unknown vs then 2 else 0)

-- verdicts have the number 0 only where none is unsafe and none unknown
abbrev pub ZeroSays : Type 0
ZeroSays = (vs : List Verdict) → verdicts_number vs ≡ 0 → (list_any is_unsafe vs ≡ false) × (list_any is_unknown vs ≡ false)

-- no parameters are known that have an initial configuration, or there is no verdict
abbrev pub tells_nothing : ReportSample → List Verdict → Bool
tells_nothing (sample.Sample values) [] = true
tells_nothing (sample.Sample values) (v ∷ vs) = false
tells_nothing sample.Empty vs = true
tells_nothing (sample.Spent count) vs = true
tells_nothing (sample.Overflow node kind) vs = true

-- the status of a report: that of its verdicts; with `--all`, 2 instead of 0 if it tells nothing
abbrev pub report_number : Bool → ReportSample → List Verdict → ℕ
report_number all s vs = if all && (verdicts_number vs == 0 && tells_nothing s vs) then 2 else verdicts_number vs
